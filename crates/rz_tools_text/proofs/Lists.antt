-- Texts that are put: lines, and resources of a list, one after the other.
use Rattle.std.proofs.Common.{◌≡◌, ℕ, Bool, true, false, if◌then◌else◌, List, [], ◌∷◌, ◌++◌, Ok, Err, Option, refl, sym, ap, subst, ◌∙◌, append_assoc, append-nil}
use Rattle.std.specs.List.{concat}
use Rattle.std.specs.declared.result.Result.{Result}
use Rattle.rz_core.specs.declared.resource.OsType.{OsType}
use Rattle.rz_core.specs.declared.resource.Resource.{Resource}
use Rattle.rz_core.specs.declared.stop.NoMemory.{NoMemory}
use Rattle.rz_folder.proofs.Streams.{front_within, got_nothing, got_then, part_within, put_flushed, told_same, told_then}
use Rattle.rz_folder.specs.Sink.{Flushes, Got, GotFront, GotPart, Puts, PutsFront, PutsOut, Stream, Told}
use Rattle.rz_folder.specs.declared.sink.Put.{Put}
use Rattle.rz_folder.specs.declared.sink.Put.TheVariants.{Done, Failed}
use Rattle.rz_fork.specs.Admit.{admitted}
use Rattle.rz_fork.specs.Contents.{Fork}
use Rattle.rz_fork.specs.declared.fault.ForkFault.{ForkFault}
use Rattle.rz_tools_text.specs.Chosen.{chosen, is_chosen}
use Rattle.rz_tools_text.specs.Shown.{Known, Shown}
use Rattle.rz_tools_text.specs.Text.{ShowsEach}

-- Lines.

-- of the lines, those before the ones that are still to come were put
abbrev pub ArePut : (all left : List (List ℕ)) → (before now : Option Stream) → Type 0
ArePut all left before now = (front : List ℕ) × (concat all ≡ front ++ concat left) × Told (Got front) before now

pub lines_begun : (all : List (List ℕ)) (before : Option Stream) → ArePut all all before before
lines_begun all before = ([], refl, told_same (Got []) got_nothing before)

module _ (all : List (List ℕ)) (line : List ℕ) (left others : List (List ℕ)) (is : left ≡ line ∷ others) (before now after : Option Stream) where
  pub line_done : ArePut all left before now → Puts line now after Done → ArePut all others before after
  line_done (front, same, so) told = (
    front ++ line,
    same ∙ ap (λ (lines : List (List ℕ)). front ++ concat lines) is ∙ sym (append_assoc front line (concat others)),
    told_then (Got front) (Got line) (Got (front ++ line)) (got_then front line) before now after so told,
  )

  pub line_failed : ArePut all left before now → Puts line now after Failed → Puts (concat all) before after Failed
  line_failed (front, same, so) told =
      subst (λ (t : List ℕ). Told (GotFront t) before after) (sym (same ∙ ap (λ (lines : List (List ℕ)). front ++ concat lines) is))
      (told_then (Got front) (GotFront line) (GotFront (front ++ (line ++ concat others))) (front_within front line (concat others)) before now after so told)

pub lines_done : (all left : List (List ℕ)) (before now : Option Stream) → left ≡ [] → ArePut all left before now → Puts (concat all) before now Done
lines_done all left before now none (front, same, so) =
    subst (λ (t : List ℕ). Told (Got t) before now) (sym (same ∙ ap (λ (lines : List (List ℕ)). front ++ concat lines) none ∙ append-nil front)) so

-- Resources.

module _ (known : Known) (only skip : List OsType) where
  abbrev Shows : List Resource → List ℕ → Type 0
  Shows list text = ShowsEach known (chosen only skip list) text

  module _ (r : Resource) where
    -- the text of one resource and that of those after it
    abbrev IsCutInTwo : List Resource → List ℕ → Type 0
    IsCutInTwo rs text = (piece rest : List ℕ) × (text ≡ piece ++ rest) × Shows (r ∷ []) piece × Shows rs rest

    cut_in_two : (rs : List Resource) (text : List ℕ) → Shows (r ∷ rs) text → IsCutInTwo rs text
    cut_in_two rs text shows = by (is_chosen only skip r.kind) shows
      where
        by : (test : Bool) → ShowsEach known (if test then r ∷ chosen only skip rs else chosen only skip rs) text
            → (piece rest : List ℕ) × (text ≡ piece ++ rest) × ShowsEach known (if test then r ∷ [] else []) piece × Shows rs rest
        by true (front, behind, eq, shown, more) = (front, behind, eq, (front, [], sym (append-nil front), shown, refl), more)
        by false more = ([], text, refl, refl, more)

  module _ (text : List ℕ) where
    -- the text of the resources before those that are still to come was put
    abbrev pub HasPut : (left : List Resource) → (before now : Option Stream) → Type 0
    HasPut left before now = (front behind : List ℕ) × (text ≡ front ++ behind) × Shows left behind × Told (Got front) before now

    pub each_begun : (list : List Resource) → Shows list text → (before : Option Stream) → HasPut list before before
    each_begun list shows before = ([], text, refl, shows, told_same (Got []) got_nothing before)

    pub each_done : (left : List Resource) → left ≡ [] → (before now : Option Stream) → HasPut left before now → PutsFront text before now (Ok Done)
    each_done left none before now (front, behind, same, shows, so) =
        let last : behind ≡ [] = subst (λ (l : List Resource). Shows l behind) none shows in
        subst (λ (t : List ℕ). Told (Got t) before now) (sym (same ∙ ap (λ (t : List ℕ). front ++ t) last ∙ append-nil front)) so

    module _ (left others : List Resource) (r : Resource) (is : left ≡ r ∷ others) (before now after : Option Stream) where
      -- the text of the next resource, after what was put and before the rest
      abbrev IsNext : Type 0
      IsNext =
          (front piece rest : List ℕ) × (text ≡ front ++ (piece ++ rest)) × Shows (r ∷ []) piece × Shows others rest × Told (Got front) before now

      next_of : HasPut left before now → IsNext
      next_of (front, behind, same, shows, so) = by (cut_in_two r others behind (subst (λ (l : List Resource). Shows l behind) is shows))
        where
          by : IsCutInTwo r others behind → IsNext
          by (piece, rest, eq, one, more) = (front, piece, rest, same ∙ ap (λ (t : List ℕ). front ++ t) eq, one, more, so)

      pub each_next : (put : Put) → put ≡ Done → HasPut left before now → ((piece : List ℕ) → Shows (r ∷ []) piece → PutsFront piece now after (Ok put))
          → HasPut others before after
      each_next put is_done so_far told = by (next_of so_far)
        where
          by : IsNext → HasPut others before after
          by (front, piece, rest, same, one, more, so) = (
            front ++ piece,
            rest,
            same ∙ sym (append_assoc front piece rest),
            more,
            told_then (Got front) (Got piece) (Got (front ++ piece)) (got_then front piece) before now after so
                (subst (λ (p : Put). PutsFront piece now after (Ok p)) is_done (told piece one)),
          )

      pub each_failed : (put : Put) → put ≡ Failed → HasPut left before now → ((piece : List ℕ) → Shows (r ∷ []) piece → PutsFront piece now after (Ok put))
          → PutsFront text before after (Ok Failed)
      each_failed put is_failed so_far told = by (next_of so_far)
        where
          by : IsNext → PutsFront text before after (Ok Failed)
          by (front, piece, rest, same, one, more, so) =
              subst (λ (t : List ℕ). Told (GotFront t) before after) (sym same)
              (told_then (Got front) (GotFront piece) (GotFront (front ++ (piece ++ rest))) (front_within front piece rest) before now after so
              (subst (λ (p : Put). PutsFront piece now after (Ok p)) is_failed (told piece one)))

      pub each_refused : (refused : NoMemory) → HasPut left before now → ((piece : List ℕ) → Shows (r ∷ []) piece → PutsFront piece now after (Err refused))
          → PutsFront text before after (Err refused)
      each_refused refused so_far told = by (next_of so_far)
        where
          by : IsNext → PutsFront text before after (Err refused)
          by (front, piece, rest, same, one, more, so) =
              subst (λ (t : List ℕ). Told (GotPart t) before after) (sym same)
              (told_then (Got front) (GotPart piece) (GotPart (front ++ (piece ++ rest))) (part_within front piece rest) before now after so (told piece one))

-- the text of one resource, if it is chosen
module _ (known : Known) (only skip : List OsType) (r : Resource) (text : List ℕ) (shows : ShowsEach known (chosen only skip (r ∷ [])) text) where
  pub one_put : (before after : Option Stream) → is_chosen only skip r.kind ≡ true → (result : Result Put NoMemory)
      → ((text : List ℕ) → Shown known r text → PutsFront text before after result) → PutsFront text before after result
  one_put before after is result told = by (subst (λ (test : Bool). ShowsEach known (if test then r ∷ [] else []) text) is shows)
    where
      by : ShowsEach known (r ∷ []) text → PutsFront text before after result
      by (front, behind, eq, shown, none) =
          subst (λ (t : List ℕ). PutsFront t before after result) (sym (eq ∙ ap (λ (t : List ℕ). front ++ t) none ∙ append-nil front)) (told front shown)

  pub none_put : (before : Option Stream) → is_chosen only skip r.kind ≡ false → PutsFront text before before (Ok Done)
  none_put before is =
      let none : text ≡ [] = subst (λ (test : Bool). ShowsEach known (if test then r ∷ [] else []) text) is shows in
      subst (λ (t : List ℕ). Told (Got t) before before) (sym none) (told_same (Got []) got_nothing before)

-- a text that was put, after a flush
pub text_flushed : (text : List ℕ) (before mid after : Option Stream) (put result : Put) → put ≡ Done → PutsFront text before mid (Ok put) → Flushes mid after result
    → PutsOut text before after (Ok result)
text_flushed text before mid after put result is told flush =
    put_flushed text before mid after result (subst (λ (p : Put). PutsFront text before mid (Ok p)) is told) flush

-- a text of which a put failed
pub text_failed : (text : List ℕ) (before after : Option Stream) (put : Put) → put ≡ Failed → PutsFront text before after (Ok put) → PutsOut text before after (Ok Failed)
text_failed text before after put is told = subst (λ (p : Put). PutsFront text before after (Ok p)) is told

-- bytes are one fork
pub one_fork : (bytes piece : List ℕ) → piece ≡ bytes → (fork other : Fork) → admitted piece ≡ Ok fork → admitted bytes ≡ Ok other → other ≡ fork
one_fork bytes piece same fork other is also =
    let e : ◌≡◌ {A = Result Fork ForkFault} (Ok other) (Ok fork) = sym also ∙ ap admitted (sym same) ∙ is in cc
