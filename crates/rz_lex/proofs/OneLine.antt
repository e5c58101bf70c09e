-- From the parts of one line to that line.
use Rattle.std.proofs.Common.{◌≡◌, ◌≢◌, ℕ, Bool, true, false, List, [], ◌∷◌, ◌++◌, Option, Some, None, refl, sym, ap, subst, ◌∙◌, append_assoc}
use Rattle.std.specs.List.{flat_map, AllByRecursion}
use Rattle.std.specs.Prelude.{◌==◌}
use Rattle.std.proofs.lemmas.Bool.{eqb-true}
use Rattle.std.proofs.lemmas.Grind.{flat_map-append}
use Rattle.std.proofs.lemmas.List.{append-nil}
use Rattle.std.proofs.lemmas.List.Concat.{flat_map-cons}
use Rattle.rz_core.specs.declared.fault.Fault.{Fault}
use Rattle.rz_core.specs.declared.fault.Mark.{Mark}
use Rattle.rz_lex.specs.declared.joined.Placed.{Placed}
use Rattle.rz_lex.specs.declared.raw_line.RawLine.{RawLine}
use Rattle.rz_lex.specs.Joined.{is_at}
use Rattle.rz_lex.specs.Cover.{after_part, text_of, Parts}
use Rattle.rz_lex.specs.Runs.{IsInside, TakesParts}
use Rattle.rz_lex.specs.Lines.{lines_of, mark_of, open_comment, HasLines, HasOpenComment, StandsBefore}

-- first parts of a text that hold no line end, and what they leave in their line
pub record LineSoFar (from to : List Placed) (text : List ℕ) : Type 0 where
  pub parts : List (List Placed)
  pub taken : Parts from parts to
  pub inside : AllByRecursion IsInside parts
  pub left : text ≡ flat_map text_of parts

parts_then : (from mid to : List Placed) (parts more : List (List Placed)) → Parts from parts mid → Parts mid more to → Parts from (parts ++ more) to
parts_then from mid to [] more taken rest = subst (λ (x : List Placed). Parts x more to) (sym taken) rest
parts_then from mid to (q ∷ parts) more taken rest = (taken.0, taken.1, taken.2, parts_then taken.0 mid to parts more taken.3 rest)

all_then : (parts more : List (List Placed)) → AllByRecursion IsInside parts → AllByRecursion IsInside more → AllByRecursion IsInside (parts ++ more)
all_then [] more all also = also
all_then (q ∷ parts) more all also = (all.0, all_then parts more all.1 also)

pub none_so_far : (from : List Placed) → LineSoFar from from []
none_so_far from = record { parts = []; taken = refl; inside = tt; left = refl }

pub more_so_far : (from mid to : List Placed) (old new : List ℕ) → LineSoFar from mid old → TakesParts mid to old new → LineSoFar from to new
more_so_far from mid to old new so t = record {
  parts = so.parts ++ t.parts;
  taken = parts_then from mid to so.parts t.parts so.taken t.taken;
  inside = all_then so.parts t.parts so.inside t.inside;
  left = t.left ∙ ap (λ (x : List ℕ). x ++ flat_map text_of t.parts) so.left ∙ sym (flat_map-append text_of so.parts t.parts);
}

module _ (file : ℕ) where
  first_mark : (p rest : List Placed) → p ≢ [] → mark_of file p ≡ mark_of file (p ++ rest)
  first_mark [] rest h = absurd (h refl)
  first_mark (a ∷ p) rest h = refl

  -- the parts of one line and the line end after them
  one_line : (from mid to : List Placed) (parts more : List (List Placed)) (e : Placed) → Parts from parts mid → AllByRecursion IsInside parts → mid ≡ e ∷ to → e.byte ≡ 10
      → lines_of file (parts ++ (e ∷ []) ∷ more) ≡ record { bytes = flat_map text_of parts; mark = mark_of file from } ∷ lines_of file more
  one_line from mid to [] more e taken inside at ten = rw (ten, taken, at) refl
  one_line from mid to (p ∷ parts) more e taken inside at ten =
      rw (inside.0.0, one_line taken.0 mid to parts more e taken.3 inside.1 at ten, taken.1, first_mark p taken.0 inside.0.1, flat_map-cons text_of p parts) refl

  -- the parts of a line that ends with the text
  last_line : (from mid : List Placed) (p : List Placed) (parts : List (List Placed)) → Parts from (p ∷ parts) mid → AllByRecursion IsInside (p ∷ parts)
      → lines_of file (p ∷ parts) ≡ record { bytes = flat_map text_of (p ∷ parts); mark = mark_of file from } ∷ []
  last_line from mid p [] taken inside = rw (inside.0.0, taken.1, first_mark p taken.0 inside.0.1, flat_map-cons text_of p [], append-nil (text_of p)) refl
  last_line from mid p (q ∷ parts) taken inside =
      rw (inside.0.0, last_line taken.0 mid q parts taken.3 inside.1, taken.1, first_mark p taken.0 inside.0.1, flat_map-cons text_of p (q ∷ parts)) refl

  pub line_here : (from mid to : List Placed) (text : List ℕ) (e : Placed) (mark : Mark) → LineSoFar from mid text → mid ≡ e ∷ to → e.byte ≡ 10 → mark ≡ mark_of file from
      → StandsBefore file from (record { bytes = text; mark = mark }) to
  line_here from mid to text e mark so at ten is lines None h =
      let same : lines_of file (so.parts ++ (e ∷ []) ∷ h.parts) ≡ record { bytes = text; mark = mark } ∷ lines =
      one_line from mid to so.parts h.parts e so.taken so.inside at ten ∙ rw (is, so.left, h.are) refl in
      record {
        parts = so.parts ++ (e ∷ []) ∷ h.parts;
        cover = parts_then from mid [] so.parts ((e ∷ []) ∷ h.parts) so.taken (to, at, rw (at, ten) refl, h.cover);
        are = sym same;
      }
  line_here from mid to text e mark so at ten is lines (Some fault) h =
      let same : lines_of file (so.parts ++ (e ∷ []) ∷ (h.parts ++ h.comment ∷ [])) ≡ record { bytes = text; mark = mark } ∷ (lines ++ h.last ∷ []) =
      one_line from mid to so.parts (h.parts ++ h.comment ∷ []) e so.taken so.inside at ten ∙ rw (is, so.left, h.are) refl in
      record {
        parts = so.parts ++ (e ∷ []) ∷ h.parts;
        comment = h.comment;
        before = parts_then from mid h.comment so.parts ((e ∷ []) ∷ h.parts) so.taken (to, at, rw (at, ten) refl, h.before);
        endless = h.endless;
        there = h.there;
        last = h.last;
        are = ap (lines_of file) (append_assoc so.parts ((e ∷ []) ∷ h.parts) (h.comment ∷ [])) ∙ same;
        is = h.is;
      }

  -- an empty text has no parts and no lines
  no_parts : (parts : List (List Placed)) (rest : List Placed) → Parts [] parts rest → (parts ≡ []) × (rest ≡ [])
  no_parts [] rest h = (refl, sym h)
  no_parts (p ∷ parts) rest h = absurd (let e : after_part [] ≡ Some h.0 = h.2 in cc)

  no_lines : (lines : List RawLine) (ending : Option Fault) → HasLines file [] lines ending → (lines ≡ []) × (ending ≡ None)
  no_lines lines None h = let e = no_parts h.parts [] h.cover in (h.are ∙ ap (lines_of file) e.0, refl)
  no_lines lines (Some fault) h = absurd (h.there (no_parts h.parts h.comment h.before).1)

  line_alone : (from : List Placed) (text : List ℕ) (mark : Mark) (parts : List (List Placed)) → Parts from parts [] → AllByRecursion IsInside parts
      → text ≡ flat_map text_of parts → from ≢ [] → mark ≡ mark_of file from → HasLines file from (record { bytes = text; mark = mark } ∷ []) None
  line_alone from text mark [] taken inside left there is = absurd (there taken)
  line_alone from text mark (p ∷ parts) taken inside left there is =
      record { parts = p ∷ parts; cover = taken; are = sym (last_line from [] p parts taken inside ∙ rw (is, left) refl) }

  pub line_at_end : (from to : List Placed) (text : List ℕ) (mark : Mark) → LineSoFar from to text → to ≡ [] → from ≢ [] → mark ≡ mark_of file from
      → StandsBefore file from (record { bytes = text; mark = mark }) to
  line_at_end from to text mark so at there is lines ending h =
      let k : HasLines file [] lines ending = subst (λ (x : List Placed). HasLines file x lines ending) at h in
      let e = no_lines lines ending k in
      let taken : Parts from so.parts [] = subst (λ (x : List Placed). Parts from so.parts x) at so.taken in
      rw (e.0, e.1) (line_alone from text mark so.parts taken so.inside so.left there is)

  -- Open comments.

  open_line : (from mid : List Placed) (parts : List (List Placed)) → Parts from parts mid → AllByRecursion IsInside parts → is_at 10 mid ≡ false
      → (last : RawLine) × (lines_of file (parts ++ mid ∷ []) ≡ last ∷ []) × (mark_of file from ≡ last.mark)
  open_line from mid [] taken inside bare = (record { bytes = text_of mid; mark = mark_of file mid }, rw bare refl, ap (mark_of file) taken)
  open_line from mid (p ∷ parts) taken inside bare =
      let r = open_line taken.0 mid parts taken.3 inside.1 bare in
      (record { bytes = text_of p ++ r.0.bytes; mark = mark_of file p }, rw (inside.0.0, r.1) refl, ap (mark_of file) taken.1 ∙ sym (first_mark p taken.0 inside.0.1))

  open_is_inside : (mid : List Placed) → after_part mid ≡ None → is_at 10 mid ≡ false
  open_is_inside [] h = refl
  open_is_inside (a ∷ rest) h = go (a.byte == 10) refl
    where
      go : (b : Bool) → a.byte == 10 ≡ b → a.byte == 10 ≡ false
      go false e = e
      go true e = let k : after_part (a ∷ rest) ≡ Some rest = rw (eqb-true a.byte 10 e) refl in absurd cc

  pub comment_here : (from mid : List Placed) (text : List ℕ) (mark : Mark) (fault : Fault) → LineSoFar from mid text → after_part mid ≡ None → mid ≢ []
      → mark ≡ mark_of file from → fault ≡ open_comment mark → HasOpenComment file from [] fault
  comment_here from mid text mark fault so endless there is said =
      let r = open_line from mid so.parts so.taken so.inside (open_is_inside mid endless) in
      record {
        parts = so.parts;
        comment = mid;
        before = so.taken;
        endless = endless;
        there = there;
        last = r.0;
        are = r.1;
        is = said ∙ ap open_comment (is ∙ r.2);
      }
