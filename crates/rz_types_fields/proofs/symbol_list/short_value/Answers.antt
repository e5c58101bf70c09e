use Rattle.std.proofs.Common.{ℕ, Option, ap, ◌∙◌}
use Rattle.std.specs.Prelude.{option_and_then, option_map, slice_get}
use Rattle.std.specs.Str.{str_to_ascii_lowercase}
use Rattle.rz_types_fields.specs.declared.field.Symbol.{Symbol}
use Rattle.rz_types_fields.proofs.SymbolPlaces.{found_value}
use Rattle.rz_types_fields.proofs.symbol_list.short_value.Goals as goal

pub returns : goal.returns
returns c =
    c.value_at.ensures
    ∙ ap (λ (place : Option ℕ). option_map (λ (s : Symbol). s.value) (option_and_then (slice_get c.args.symbols.now) place))
    (c.place_of_name.ensures ∙ c.requires.index.firsts (str_to_ascii_lowercase c.args.name.now))
    ∙ found_value c.args.symbols.now c.args.name.now
