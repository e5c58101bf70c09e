-- One entry more of a table of words.
use Rattle.std.proofs.Common.{◌≡◌, ℕ, ◌+◌, ◌<◌, List, drop, get_or, length, Some, sym, ap, ◌∙◌, Bor}
use Rattle.std.specs.Prelude.{if◌then◌else◌}
use Rattle.std.specs.Str.{bytes_eq}
use Rattle.std.proofs.lemmas.List.{at_drop_more}
use Rattle.rz_tools_args.specs.Held.{words_of}
use Rattle.rz_tools_args.specs.Syntax.{named}

pub named_step : {X : Type 0} (table : List (Bor (List ℕ) × X)) (i : ℕ) (entry : Bor (List ℕ) × X) (word : List ℕ) → i < length table → entry ≡ get_or table i entry
    → (if bytes_eq word entry.0.now then Some entry.1 else named (words_of (drop (i + 1) table)) word) ≡ named (words_of (drop i table)) word
named_step {X} table i entry word within is =
    ap (λ (e : Bor (List ℕ) × X). if bytes_eq word e.0.now then Some e.1 else named (words_of (drop (i + 1) table)) word) is
    ∙ sym (at_drop_more (λ (entries : List (Bor (List ℕ) × X)). named (words_of entries) word) table i entry within)
