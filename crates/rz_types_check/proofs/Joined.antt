-- Names after names.
use Rattle.std.proofs.Common.{◌≡◌, List, [], ◌∷◌, ◌++◌, refl, sym, ap, ◌∙◌, append_assoc}
use Rattle.std.proofs.lemmas.List.{append-nil}
use Rattle.rz_types_fields.specs.Field.{PlainField}
use Rattle.rz_types.specs.Walk.{and_names, names_in, no_names, own_names, Own}

pub and_assoc : (a b c : Own) → and_names (and_names a b) c ≡ and_names a (and_names b c)
and_assoc a b c = λ i. record {
  labels = append_assoc a.labels b.labels c.labels i;
  arrays = append_assoc a.arrays b.arrays c.arrays i;
  indexed = append_assoc a.indexed b.indexed c.indexed i;
  around = append_assoc a.around b.around c.around i;
}

pub and_none : (a : Own) → and_names a no_names ≡ a
and_none a = λ i. record { labels = append-nil a.labels i; arrays = append-nil a.arrays i; indexed = append-nil a.indexed i; around = append-nil a.around i }

names_append : (front back : List PlainField) → names_in (front ++ back) ≡ and_names (names_in front) (names_in back)
names_append [] back = refl
names_append (field ∷ front) back =
    ap (and_names (own_names field)) (names_append front back) ∙ sym (and_assoc (own_names field) (names_in front) (names_in back))

pub more_names : (names : Own) (front back : List PlainField)
    → and_names (and_names names (names_in front)) (names_in back) ≡ and_names names (names_in (front ++ back))
more_names names front back = and_assoc names (names_in front) (names_in back) ∙ ap (and_names names) (sym (names_append front back))
