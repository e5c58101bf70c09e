-- What `lay_row` answers.
use Rattle.std.specs.Prelude.{ℕ, ◌==◌, Bool, ◌||◌, List, Ok, Err}
use Rattle.std.specs.declared.result.Result.{Result}
use Rattle.rz_core.specs.declared.facts.Facts.{Facts}
use Rattle.rz_types_fields.specs.declared.tree.Tree.{Tree}
use Rattle.rz_types_fields.specs.Laid.{Refusal, Refuses}
use Rattle.rz_types_fields.specs.Spells.{Spells}
use Rattle.rz_types.specs.Field.{PlainBody}

-- the bytes that a row spells, or its refusal
abbrev pub IsCompiled : Facts → PlainBody → List Tree → Result (List ℕ) Refusal → Type 0
IsCompiled known body row (Ok bytes) = Spells known body row bytes
IsCompiled known body row (Err fault) = Refuses known body row fault

-- the faults that a row can have
abbrev pub is_compile_fault : ℕ → Bool
is_compile_fault number = (number == 207) || (number == 211) || (number == 213) || (number == 214) || (number == 215) || (number == 216) || (number == 222) || (number == 223) || (number == 301)
