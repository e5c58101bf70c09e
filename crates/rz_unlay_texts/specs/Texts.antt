-- Texts at a place: how many bytes they have, and their values. (MPW Rez.)
use Rattle.std.specs.Prelude.{ℕ, ◌+◌, ◌-◌, ◌/◌, ◌%◌, ℤ, nat_abs, Bool, if◌then◌else◌, List, length, map, Option, Some, None, option_and_then, option_map, Ok, Err}
use Rattle.std.specs.Result.{result_ok}
use Rattle.std.specs.declared.result.Result.{Result}
use Rattle.rz_core.specs.declared.facts.Facts.{Facts}
use Rattle.rz_expr.specs.Environment.{Sight}
use Rattle.rz_expr.specs.Term.{Term}
use Rattle.rz_expr.specs.Value.{value_of}
use Rattle.rz_expr.specs.declared.value.EvalFault.{EvalFault}
use Rattle.rz_types_fields.specs.declared.field.TextForm.{TextForm}
use Rattle.rz_types_fields.specs.declared.field.TextForm.TheVariants as texts
use Rattle.rz_types_fields.specs.Field.{PlainText}
use Rattle.rz_types_fields.specs.Range.{may_be_size}
use Rattle.rz_types_fields.specs.Spells.{nowhere}
use Rattle.rz_types_fields.specs.Stored.{before_zero, stored_text}
use Rattle.rz_types_fields.specs.Text.{bytes_seen, PlainPart}
use Rattle.rz_types_fields.specs.Width.{sized_bytes}
use Rattle.rz_types_fields.specs.declared.tree.Tree.{Tree}
use Rattle.rz_types_fields.specs.declared.tree.Tree.TheVariants as trees
use Rattle.rz_bits.specs.View.{bytes_at, number_at}
use Rattle.rz_unlay_texts.specs.Plain.{plain_text, same_bytes, up_to_zero}
use Rattle.rz_unlay_texts.specs.declared.text.TextCame.{TextCame}
use Rattle.rz_unlay_texts.specs.declared.text.TextCame.TheVariants as came

-- Sizes.

-- the size of a text, which it may have
abbrev pub size_found : TextForm → Result ℤ EvalFault → Option (Option ℕ)
size_found form (Err fault) = None
size_found form (Ok size) = if may_be_size form size then Some (Some (nat_abs size)) else None

abbrev pub size_read : TextForm → Option Term → Sight → Option (Option ℕ)
size_read form None sight = Some None
size_read form (Some term) sight = size_found form (value_of term sight)

-- how many bytes a size leaves of so many, or fills them to
abbrev pub sized_count : Option ℕ → ℕ → ℕ
sized_count None count = count
sized_count (Some size) count = size

-- how many bytes the stored form of so many has
abbrev pub stored_count : TextForm → Option ℕ → ℕ → ℕ
stored_count texts.Open size count = sized_count size count
stored_count texts.Pascal size count = 1 + sized_count size count
stored_count texts.WordLong size count = 2 + sized_count size count
stored_count texts.Zero size count = sized_count (before_zero size) count + 1

-- how many bytes the stored form of a text of the row has at a place, where an open one has this room
abbrev pub stored_size : List Bool → Option ℕ → TextForm → Option ℕ → ℕ → Option ℕ
stored_size all room form (Some size) at = Some (sized_bytes form size)
stored_size all room texts.Open None at = room
stored_size all room texts.Pascal None at = option_map (λ n. 1 + n) (number_at all at 8)
stored_size all room texts.WordLong None at = option_map (λ n. 2 + n) (number_at all at 16)
stored_size all room texts.Zero None at =
    option_and_then (λ bytes. option_map (λ front. length front + 1) (up_to_zero bytes)) (bytes_at all at ((length all - at) / 8))

-- the same of whatever text: that of its fixed parts, or what stands there
abbrev pub text_size : Facts → Sight → List Bool → Option ℕ → TextForm → Option ℕ → Option (List PlainPart) → ℕ → Option ℕ
text_size known sight all room form size None at = stored_size all room form size at
text_size known sight all room form size (Some parts) at = option_map (λ bytes. length (stored_text form size bytes)) (result_ok (bytes_seen nowhere known sight parts))

-- Values.

-- the value of a text and its bytes; of a fixed text eight bits of each, as they are stored
abbrev pub fixed_read : {E : Type 0} → Result (List ℕ) E → Option (Option Tree × List ℕ)
fixed_read (Err fault) = None
fixed_read (Ok bytes) = Some (None, map (λ byte. byte % 256) bytes)

abbrev pub text_read : Facts → Sight → TextForm → Option ℕ → Option (List PlainPart) → List ℕ → Option (Option Tree × List ℕ)
text_read known sight form size None raw = Some (Some (trees.Text (plain_text form size raw)), plain_text form size raw)
text_read known sight form size (Some parts) raw = fixed_read (bytes_seen nowhere known sight parts)

-- the value of a text that is stored as these bytes; a text of fixed parts has none
abbrev pub stored_value : Facts → Sight → PlainText → Option ℕ → List ℕ → Option (Option Tree)
stored_value known sight text size raw =
    option_and_then (λ found. if same_bytes (stored_text text.form size found.1) raw then Some found.0 else None) (text_read known sight text.form size text.fixed raw)

-- the value of a text whose stored form has so many bytes at a place
abbrev pub text_value : Facts → Sight → List Bool → PlainText → Option ℕ → ℕ → ℕ → Option (Option Tree)
text_value known sight all text size count at = option_and_then (stored_value known sight text size) (bytes_at all at count)

-- as the code has it
abbrev pub came_value : TextCame → Option Tree
came_value came.Fixed = None
came_value (came.Value bytes) = Some (trees.Text bytes)
