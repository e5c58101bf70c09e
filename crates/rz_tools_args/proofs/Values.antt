-- Good values: each sort has one.
use Rattle.std.proofs.Common.{ℕ, zero, suc, List, [], Some, None, refl, sym, arith}
use Rattle.std.specs.Prelude.{codes}
use Rattle.std.specs.Str.{IsAscii}
use Rattle.std.proofs.lemmas.Str.{encodes-IsAscii}
use Rattle.rz_core.specs.declared.resource.OsType.{OsType}
use Rattle.rz_bridge_files.specs.declared.form.Form.TheVariants as forms
use Rattle.rz_words.specs.Attribute.{attribute_word}
use Rattle.rz_words.specs.Keyword.{keyword_of}
use Rattle.rz_lex.specs.Cutting.{Next}
use Rattle.rz_lex.specs.declared.token.Shape.TheVariants as shapes
use Rattle.rz_pre_source.specs.Source.IsTextOf.{marked}
use Rattle.rz_tools_args.specs.Command.{Define, Form, IsValue, Kind, Name, Value}
use Rattle.rz_tools_args.specs.Definition.{nowhere, HasNoSign, IsName}
use Rattle.rz_tools_args.specs.Definition.Defines.{alone}
use Rattle.rz_tools_args.specs.Kind.{IsKind}
use Rattle.rz_tools_args.specs.declared.flag.Sort.{Sort}
use Rattle.rz_tools_args.specs.declared.flag.Sort.TheVariants as sorts

-- a word that is cut whole
abbrev pub IsCutBack : Type 0
IsCutBack = Next nowhere (codes "a") (record { shape = shapes.Word (record { bytes = codes "a" }); mark = nowhere }) []

-- a type of four letters
abbrev some_kind : OsType
some_kind = record { code = 1633837924 }

ascii_abcd : IsAscii (codes "abcd")
ascii_abcd zero = omega arith
ascii_abcd (suc zero) = omega arith
ascii_abcd (suc (suc zero)) = omega arith
ascii_abcd (suc (suc (suc zero))) = omega arith
ascii_abcd (suc (suc (suc (suc i)))) = omega arith

kind_a : IsKind (codes "abcd") some_kind
kind_a = record {
  bytes = codes "abcd";
  roman = marked (codes "abcd") refl (record { characters = codes "abcd"; scalars = refl; encoded = sym (encodes-IsAscii (codes "abcd") ascii_abcd); each = refl });
  is = refl;
}

no_sign : HasNoSign (codes "a")
no_sign zero within is = omega (arith, is)
no_sign (suc i) within is = absurd (omega (arith, within))

-- a definition of a name of one letter
module _ (back : IsCutBack) where
  name_a : IsName (codes "a") (record { bytes = codes "a" })
  unfolding keyword_of attribute_word
  name_a = record { spelled = refl; one = ([], ([], back, refl), refl); free = refl }

  pub good_value : (sort : Sort) → (word : List ℕ) × (value : Value) × IsValue sort word value
  good_value sorts.Name = (codes "a", Name (codes "a"), refl)
  good_value sorts.Definition =
      (codes "a", Define (record { name = record { bytes = codes "a" }; text = Some [] }), (record { name = record { bytes = codes "a" }; text = Some [] }, refl, alone no_sign (name_a, refl)))
  good_value sorts.Undefinition =
      (codes "a", Define (record { name = record { bytes = codes "a" }; text = None }), (record { name = record { bytes = codes "a" }; text = None }, refl, (name_a, refl)))
  good_value sorts.Kind = (codes "abcd", Kind some_kind, (some_kind, refl, kind_a))
  good_value sorts.Form = (codes "raw", Form forms.Raw, (forms.Raw, refl, refl))
