-- A text, one step after the other.
use Rattle.std.proofs.Common.{◌≡◌, ℕ, ◌+◌, ◌*◌, ◌≤◌, Bool, true, false, length, Option, Some, None, ap, ◌∙◌}
use Rattle.std.specs.Prelude.{if◌then◌else◌, option_and_then, option_map}
use Rattle.rz_expr.specs.Environment.{Environment}
use Rattle.rz_types_fields.specs.Field.{PlainText}
use Rattle.rz_types_fields.specs.Known.{known}
use Rattle.rz_types_fields.specs.Piece.{terms_of_text}
use Rattle.rz_types_fields.specs.Sees.{marked, Late}
use Rattle.rz_types_fields.specs.Spells.{is_one_late}
use Rattle.rz_types_fields.specs.declared.tree.Tree.{Tree}
use Rattle.rz_unlay.specs.Pieces.{early_text, size_here, sized_step, sized_text, text_step}
use Rattle.rz_unlay_pieces.specs.Came.{step_of}
use Rattle.rz_unlay_pieces.specs.Pieces.{late_behind, seen_at, Here, Step}
use Rattle.rz_unlay_pieces.specs.declared.came.Came.{Came}
use Rattle.rz_unlay_pieces.specs.declared.learnt.Learnt.{Learnt}
use Rattle.rz_unlay_pieces.proofs.Marking.{marked_more}
use Rattle.rz_unlay_texts.specs.Texts.{size_read, text_value}

module _ (here : Here) (text : PlainText) (names : Environment) (at : ℕ) (late : Late) where
  abbrev if_late : Bool → Option Step
  if_late test = if test then None else early_text here text names at late

  pub late_text : true ≡ is_one_late here.met late (terms_of_text text) (seen_at here names at) → None ≡ text_step here text names at late
  late_text is = ap if_late is

  -- none of its expressions is late
  module _ (early : false ≡ is_one_late here.met late (terms_of_text text) (seen_at here names at)) where
    pub no_size : None ≡ size_read text.form text.size (seen_at here names at) → None ≡ text_step here text names at late
    no_size none = ap (option_and_then (λ size. sized_text here text size names at late)) none ∙ ap if_late early

    pub of_size : (size : Option ℕ) → Some size ≡ size_read text.form text.size (seen_at here names at) → sized_text here text size names at late ≡ text_step here text names at late
    of_size size has = ap (option_and_then (λ size. sized_text here text size names at late)) has ∙ ap if_late early

-- a text of a size that has so many bytes
module _ (here : Here) (text : PlainText) (size : Option ℕ) (names : Environment) (at count : ℕ) (late : Late) (value : Option Tree) where
  abbrev came : Option Tree → Step
  came value = record { value = value; after = at + 8 * count; names = names; late = late_behind late (8 * count) false }

  pub text_goes : Some count ≡ size_here here names text.form size text.fixed at → Some value ≡ text_value here.known (seen_at here names at) here.all text size count at
      → Some (came value) ≡ sized_text here text size names at late
  text_goes counted is = ap (option_map came) is ∙ ap (option_and_then (sized_step here text size names at late)) counted

pub after_text : (learnt : Learnt) (came : Came) (value : Option Tree) (at count : ℕ) → length learnt.marks ≤ at → came.value ≡ value → came.after ≡ at + 8 * count
    → step_of learnt came ≡ record { value = value; after = at + 8 * count; names = known learnt.notes.items; late = late_behind (marked at learnt.marks) (8 * count) false }
after_text learnt came value at count few is ends =
    let marks : marked came.after learnt.marks ≡ late_behind (marked at learnt.marks) (8 * count) false = ap (λ (n : ℕ). marked n learnt.marks) ends ∙ marked_more learnt.marks at (8 * count) few in
    λ i. record { value = is i; after = ends i; names = known learnt.notes.items; late = marks i }
