-- What an expression sees at a place in a resource, and which numbers are computed after all others. (MPW Rez.)
use Rattle.std.specs.Prelude.{ℕ, ◌-◌, ℤ, pos, Bool, false, ◌||◌, not, if◌then◌else◌, List, ◌++◌, length, take, drop, replicate, Option, None, option_map}
use Rattle.std.specs.List.{list_any}
use Rattle.std.specs.Result.{is_ok}
use Rattle.rz_core.specs.declared.facts.Facts.{Facts}
use Rattle.rz_expr.specs.Environment.{place_key, rows_key, Environment, Sight}
use Rattle.rz_expr.specs.Mention.{alone, indexed, mentions, with_bits, Mention}
use Rattle.rz_expr.specs.Term.{Term}
use Rattle.rz_expr.specs.Value.{value_of}
use Rattle.rz_bits.specs.View.{number_at}
use Rattle.rz_types_fields.specs.Passed.{Names}
use Rattle.rz_types_fields.specs.Value.{see}

-- Bits.

-- the number in so many bits from a bit on, where they all stand before a place
abbrev pub bits_before : List Bool → ℕ → ℤ → ℤ → Option ℤ
bits_before all at (pos first) (pos width) = option_map (λ number. pos number) (number_at (take at all) first width)
bits_before all at first width = None

-- what an expression sees at a place in a resource with these bits
abbrev pub sees : Facts → List Bool → Environment → ℕ → Sight
sees known all names at = see known (bits_before all at) names

-- which bits are those of a late number, one that is computed after all others: a mark for each bit
abbrev pub Late : Type 0
Late = List Bool

-- a mark for each of so many bits, where those after the marks aren't late
abbrev pub marked : ℕ → List Bool → Late
marked count marks = marks ++ replicate (count - length marks) false

-- one of so many bits from a bit on is late
abbrev pub hit : Late → ℤ → ℤ → Bool
hit late (pos first) (pos width) = list_any (λ mark. mark) (take width (drop first late))
hit late first width = false

-- the same without the late bits
abbrev pub beside : Late → Sight → Sight
beside late sight = record {
  names = sight.names;
  bits = λ first width. if hit late first width then None else sight.bits first width;
  fact = sight.fact;
}

-- Late numbers.

-- a label that wasn't met stands later; so does one in the rows of an array that hasn't ended
abbrev pub is_later : Names → Mention → Bool
is_later met (alone name) = not (met (place_key name))
is_later met (indexed name) = not (met (rows_key name))
is_later met (with_bits name) = not (met (place_key name))
is_later met other = false

-- the expression names a label that stands later
abbrev pub names_later : Names → Term → Bool
names_later met term = list_any (is_later met) (mentions term)

-- a number is late where its expression names a label after it, or has no value beside the late bits
abbrev pub is_late : Names → Late → Term → Sight → Bool
is_late met late term sight = names_later met term || not (is_ok (value_of term (beside late sight)))
