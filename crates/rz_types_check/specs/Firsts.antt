-- What the code holds beside a list of names, so that each is found at once: by keys, which are names, where they stood first.
use Rattle.std.specs.Prelude.{◌≡◌, ℕ, Bool, false, List, take, slice_get, Option}
use Rattle.std.specs.HashMap.{get, HashMap}
use Rattle.std.specs.Option.{option_and_then, option_map_or}
use Rattle.std.specs.Str.{str_eq_ignore_ascii_case}
use Rattle.rz_core.specs.declared.resource.Word.{Word}
use Rattle.rz_types.specs.Walk.{is_among}

-- the name at this position among names is this one, in whatever case
abbrev pub stands_at : List Word → List ℕ → Option ℕ → Bool
stands_at names name position = option_map_or (λ one. str_eq_ignore_ascii_case one.bytes name) (option_and_then (slice_get names) position) false

-- the position that is held for a key
abbrev pub first_at : {K S : Type 0} → (K → List ℕ) → HashMap K ℕ S → K → Option ℕ
first_at bytes firsts key = get (λ one other. str_eq_ignore_ascii_case (bytes one) (bytes other)) firsts key

-- the name of a key is among the first so many names exactly where it stands among them at the position that is held for it
abbrev pub AreFound : {K S : Type 0} → (K → List ℕ) → HashMap K ℕ S → List Word → Type 0
AreFound {K} bytes firsts names = (key : K) (count : ℕ) → is_among (bytes key) (take count names) ≡ stands_at (take count names) (bytes key) (first_at bytes firsts key)
