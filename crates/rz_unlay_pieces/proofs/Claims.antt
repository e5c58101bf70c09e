-- What is known and met after notes more.
use Rattle.std.proofs.Common.{◌≡◌, ℕ, Bool, true, ℤ, List, [], ◌∷◌, ◌++◌, length, Option, Some, None, refl, ap, ◌∙◌}
use Rattle.std.specs.Option.{is_some}
use Rattle.std.specs.Prelude.{if◌then◌else◌}
use Rattle.rz_expr.specs.Environment.{Environment, Key}
use Rattle.rz_types_fields.specs.Field.{PlainBody}
use Rattle.rz_types_fields.specs.FlatRows.{AllPlacesAre}
use Rattle.rz_types_fields.specs.Known.{known, meeting, met, met_noted, noting, AreRowsNoted}
use Rattle.rz_types_fields.specs.Passed.{outside}
use Rattle.rz_types_fields.specs.RowLabels.{also_rows}
use Rattle.rz_types_fields.specs.Solve.{is_same_key}
use Rattle.rz_types_fields.specs.declared.names.Note.{Note}
use Rattle.rz_types_fields.proofs.Fronts.{met_append, noted_append}
use Rattle.rz_types_fields.proofs.Noting.{known_more}
use Rattle.rz_unlay_pieces.specs.Pieces.{agrees, also, claim}
use Rattle.rz_unlay_pieces.specs.Seen.{met_in_rows}

met_more : (before : Bool) (notes : List Note) (note : Note) (key : Key) → met_noted before (notes ++ note ∷ []) key ≡ meeting note key (met_noted before notes key)
met_more before [] note key = refl
met_more before (first ∷ notes) note key = met_more (meeting first key before) notes note key

module _ (notes new : List Note) (note : Note) (is : new ≡ notes ++ note ∷ []) where
  pub met_now : met new ≡ (λ key. meeting note key (met notes key))
  met_now = ap met is ∙ (λ i key. met_more (is_some (outside.give key)) notes note key i)

  pub known_now : known new ≡ record { give = λ key. noting note key ((known notes).give key) }
  known_now = ap known is ∙ known_more notes note

  -- a note that gives a key a value
  module _ (key : Key) (value : ℤ) (says : (other : Key) (before : Option ℤ) → noting note other before ≡ (if is_same_key key other then Some value else before)) where
    pub tells : known new ≡ also key value (known notes)
    tells = known_now ∙ (λ i. record { give = λ other. says other ((known notes).give other) i })

    pub claims : true ≡ agrees ((known notes).give key) value → Some (known new) ≡ claim key value (known notes)
    claims same = ap Some tells ∙ ap (λ (b : Bool). if b then Some (also key value (known notes)) else None) same

-- After several notes.

-- all rows of an array were read
module _ (row : PlainBody) (count : ℕ) (places : List ℤ) (old new : List Note) (noted_rows : AreRowsNoted row count places old new) where
  pub rows_known : (ends : List Environment) → length ends ≡ count → AllPlacesAre row ends places → known new ≡ also_rows row ends (known old)
  rows_known ends long are =
      ap known noted_rows.grew
      ∙ (λ i. record { give = λ key. (noted_append (outside.give key) old noted_rows.more key ∙ noted_rows.values ends long are key ((known old).give key)) i })

  pub rows_met : met new ≡ met_in_rows row (met old)
  rows_met = ap met noted_rows.grew ∙ (λ i key. (met_append (is_some (outside.give key)) old noted_rows.more key ∙ noted_rows.all_met key (met old key)) i)
