-- The entries of a catalogue, as its tokens tell them.
use Rattle.std.specs.Prelude.{◌≡◌, ◌≢◌, ℕ, ℤ, pos, neg_ℤ, FitsSigned, Bool, true, false, if◌then◌else◌, List, [], ◌∷◌, ◌++◌, map, Option, Some, None, Ok, Err}
use Rattle.std.specs.Int.{w16}
use Rattle.std.specs.List.{concat}
use Rattle.std.specs.declared.result.Result.{Result}
use Rattle.rz_core.specs.Resources.{kind_of}
use Rattle.rz_core.specs.declared.fault.Fault.{Fault}
use Rattle.rz_core.specs.declared.fault.Kept.TheVariants.{Nothing}
use Rattle.rz_core.specs.declared.fault.Mark.{Mark}
use Rattle.rz_lex.specs.Token.{is_the_sign}
use Rattle.rz_lex.specs.declared.sign.Sign.TheVariants.{Minus, Semicolon}
use Rattle.rz_lex.specs.declared.token.Shape.{Shape}
use Rattle.rz_lex.specs.declared.token.Shape.TheVariants.{Literal, Number, Sign, Text}
use Rattle.rz_lex.specs.declared.token.Token.{Token}
use Rattle.rz_catalog_text.specs.InOrder.{EachInOrder}
use Rattle.rz_catalog_text.specs.declared.entry.Entry.{Entry}

-- Chunks.

-- a token in front of the first of these chunks
abbrev pub in_first : Token → List (List Token) → List (List Token)
in_first token [] = (token ∷ []) ∷ []
in_first token (chunk ∷ chunks) = (token ∷ chunk) ∷ chunks

-- the tokens cut after each `;`; a rest after the last one is a chunk, too
abbrev pub chunks : List Token → List (List Token)
chunks [] = []
chunks (token ∷ tokens) = if is_the_sign Semicolon token.shape then (token ∷ []) ∷ chunks tokens else in_first token (chunks tokens)

abbrev pub first_mark : List Token → Option Mark
first_mark [] = None
first_mark (token ∷ tokens) = Some token.mark

-- Entries.

-- an id: a number, after a minus sign or none
abbrev pub id_shapes : (minus : Bool) → ℕ → List Shape
id_shapes false number = Number number ∷ []
id_shapes true number = Sign Minus ∷ Number number ∷ []

abbrev pub id_value : (minus : Bool) → ℕ → ℤ
id_value false number = pos number
id_value true number = neg_ℤ (pos number)

-- the chunk is an entry: a literal of four bytes, an id of 16 bits, the number of the text, one text or more, and `;`
pub record IsEntry (chunk : List Token) (entry : Entry) : Type 0 where
  pub kind : List ℕ
  pub minus : Bool
  pub number : ℕ
  pub texts : List (List ℕ)
  pub are : map (λ token. token.shape) chunk ≡ Literal kind ∷ (id_shapes minus number ++ Number entry.leaf ∷ (map Text texts ++ Sign Semicolon ∷ []))
  pub is_kind : kind_of kind ≡ Some entry.kind
  pub is_id : entry.id ≡ id_value minus number
  pub fits : FitsSigned w16 entry.id
  pub some : texts ≢ []
  pub joined : entry.text ≡ concat texts
  pub is_mark : first_mark chunk ≡ Some entry.mark

-- 461
abbrev pub bad_entry : Option Mark → Fault
bad_entry mark = record { number = 461; mark = mark; kept = Nothing }

-- the entry that a chunk is, or the fault of one that is none, at its first token
abbrev pub IsEntryAnswer : List Token → Result Entry Fault → Type 0
IsEntryAnswer chunk (Ok entry) = IsEntry chunk entry
IsEntryAnswer chunk (Err fault) = ((entry : Entry) → IsEntry chunk entry → ⊥) × (fault ≡ bad_entry (first_mark chunk))

-- the entries that the tokens are, or the fault of the first chunk that is none
abbrev pub AreEntries : List Token → Result (List Entry) Fault → Type 0
AreEntries tokens answer = EachInOrder IsEntryAnswer (chunks tokens) answer
