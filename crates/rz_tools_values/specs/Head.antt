-- The values of a head, from left to right, or the first fault. (MPW Rez.)
use Rattle.std.specs.Prelude.{ℕ, ◌-◌, ℤ, pos, negsuc, int_le, nat_lt, ◌&&◌, if◌then◌else◌, List, [], ◌∷◌, length, bit_and, bit_or, Option, Some, None, Ok, Err}
use Rattle.std.specs.declared.result.Result.{Result}
use Rattle.rz_core.specs.Stop.{◌>>=◌}
use Rattle.rz_core.specs.declared.facts.Facts.{Facts}
use Rattle.rz_core.specs.declared.fault.Fault.{Fault}
use Rattle.rz_core.specs.declared.fault.Kept.TheVariants.{Number}
use Rattle.rz_core.specs.declared.fault.Mark.{Mark}
use Rattle.rz_stmt_data.specs.Head.{Attribute, Clear, Head, Set, Value}
use Rattle.rz_tools_values.specs.declared.setting.Setting.{Setting}
use Rattle.rz_types.specs.Text.{bytes_of, PlainPart}
use Rattle.rz_types.specs.Value.{number_of}

abbrev pub keeps_number : ℕ → Mark → ℤ → Fault
keeps_number number mark value = record { number = number; mark = Some mark; kept = Number value }

-- an id is from -32768 to 32767: 204
abbrev pub id_of : Mark → ℤ → Result ℤ Fault
id_of mark value = if int_le (negsuc 32767) value && int_le value (pos 32767) then Ok value else Err (keeps_number 204 mark value)

-- a name has at most 255 bytes: 216
abbrev pub short_name : Mark → List ℕ → Result (List ℕ) Fault
short_name mark bytes = if nat_lt 255 (length bytes) then Err (keeps_number 216 mark (pos (length bytes))) else Ok bytes

abbrev pub name_of : Mark → Facts → Option (List PlainPart) → Result (List ℕ) Fault
name_of mark known None = Ok []
name_of mark known (Some parts) = bytes_of mark known parts >>= short_name mark

-- a number that sets all eight bits is from 0 to 255: 207
abbrev pub attr_of : Mark → ℤ → Result ℕ Fault
attr_of mark (pos value) = if nat_lt 255 value then Err (keeps_number 207 mark (pos value)) else Ok value
attr_of mark (negsuc n) = Err (keeps_number 207 mark (negsuc n))

-- the bits after an attribute
abbrev pub bits_behind : Mark → Facts → ℕ → Attribute → Result ℕ Fault
bits_behind mark known byte (Set bit) = Ok (bit_or byte bit)
bits_behind mark known byte (Clear bit) = Ok (bit_and byte (255 - bit))
bits_behind mark known byte (Value term) = number_of mark known term >>= attr_of mark

-- and after several, from left to right
abbrev pub bits_behind_all : Mark → Facts → ℕ → List Attribute → Result ℕ Fault
bits_behind_all mark known byte [] = Ok byte
bits_behind_all mark known byte (attribute ∷ attributes) = bits_behind mark known byte attribute >>= λ next. bits_behind_all mark known next attributes

-- what is known of a resource while its head is computed: its type and the moment
abbrev pub head_facts : Setting → ℕ → Facts
head_facts setting code = record { kind = record { code = code }; id = pos 0; name = []; attr = 0; moment = setting.moment }

-- what is known after the values of a head, from left to right, where so much was known before
abbrev pub known_by_head : Mark → Facts → Head → Result Facts Fault
known_by_head mark begun head =
    number_of mark begun head.id >>= id_of mark >>= λ id. name_of mark begun head.name >>= λ name. bits_behind_all mark begun 0 head.attributes
    >>= λ attr. Ok (record { kind = begun.kind; id = id; name = name; attr = attr; moment = begun.moment })

abbrev pub facts_of : Setting → Mark → ℕ → Head → Result Facts Fault
facts_of setting mark code head = known_by_head mark (head_facts setting code) head
