-- The entries of the first chunks, and what is left.
use Rattle.std.proofs.Common.{◌≡◌, ℕ, suc, Bool, true, false, List, [], ◌∷◌, ◌++◌, Some, take, drop, refl, sym, subst, ap, ◌∙◌, append_assoc, inl, inr}
use Rattle.std.specs.Prelude.{if◌then◌else◌, Ok, Err}
use Rattle.std.specs.declared.result.Result.{Result}
use Rattle.std.proofs.lemmas.List.{append-nil}
use Rattle.rz_core.specs.declared.fault.Fault.{Fault}
use Rattle.rz_lex.specs.Token.{is_the_sign}
use Rattle.rz_lex.specs.declared.sign.Sign.TheVariants.{Semicolon}
use Rattle.rz_lex.specs.declared.token.Token.{Token}
use Rattle.rz_catalog_text.specs.Entries.{chunks, first_mark, in_first, AreEntries, IsEntry, IsEntryAnswer}
use Rattle.rz_catalog_text.specs.InOrder.{EachInOrder}
use Rattle.rz_catalog_text.specs.Read.{chunk_size}
use Rattle.rz_catalog_text.specs.declared.entry.Entry.{Entry}

-- The first chunk.

first_by : (ends : Bool) (token : Token) (tokens : List Token)
    → (ends ≡ false → in_first token (chunks tokens) ≡ (token ∷ take (chunk_size tokens) tokens) ∷ chunks (drop (chunk_size tokens) tokens))
    → (if ends then (token ∷ []) ∷ chunks tokens else in_first token (chunks tokens))
    ≡ take (suc (if ends then 0 else chunk_size tokens)) (token ∷ tokens) ∷ chunks (drop (suc (if ends then 0 else chunk_size tokens)) (token ∷ tokens))
first_by true token tokens goes_on = refl
first_by false token tokens goes_on = goes_on refl

first_chunk : (token : Token) (tokens : List Token) → chunks (token ∷ tokens) ≡ take (chunk_size (token ∷ tokens)) (token ∷ tokens) ∷ chunks (drop (chunk_size (token ∷ tokens)) (token ∷ tokens))
first_chunk token [] = first_by (is_the_sign Semicolon token.shape) token [] (λ _. refl)
first_chunk token (second ∷ tokens) = first_by (is_the_sign Semicolon token.shape) token (second ∷ tokens) (λ _. ap (in_first token) (first_chunk second tokens))

-- the first chunk, as it is cut off
pub cut_off : (rest : List Token) (first : Token) (others : List Token) (size : ℕ) (chunk behind : List Token) → rest ≡ first ∷ others → size ≡ chunk_size rest → chunk ≡ take size rest → behind ≡ drop size rest
    → (chunks rest ≡ chunk ∷ chunks behind) × (first_mark chunk ≡ Some first.mark)
cut_off rest first others size chunk behind are is front back =
    let all : size ≡ chunk_size (first ∷ others) = is ∙ ap chunk_size are in
    let chunk_is : chunk ≡ take (chunk_size (first ∷ others)) (first ∷ others) = front ∙ (λ j. take (all j) (are j)) in
    let behind_is : behind ≡ drop (chunk_size (first ∷ others)) (first ∷ others) = back ∙ (λ j. drop (all j) (are j)) in
    (ap chunks are ∙ first_chunk first others ∙ sym (λ j. chunk_is j ∷ chunks (behind_is j)), ap first_mark chunk_is)

-- Entries in front.

-- these entries and then what is answered
abbrev pub behind_entries : List Entry → Result (List Entry) Fault → Result (List Entry) Fault
behind_entries entries (Ok more) = Ok (entries ++ more)
behind_entries entries (Err fault) = Err fault

none_behind : (answer : Result (List Entry) Fault) → answer ≡ behind_entries [] answer
none_behind (Ok entries) = refl
none_behind (Err fault) = refl

one_behind : (entries : List Entry) (entry : Entry) (answer : Result (List Entry) Fault)
    → behind_entries entries (behind_entries (entry ∷ []) answer) ≡ behind_entries (entries ++ entry ∷ []) answer
one_behind entries entry (Ok more) = ap (λ (all : List Entry). Ok all) (sym (append_assoc entries (entry ∷ []) more))
one_behind entries entry (Err fault) = refl

-- what the rest answers, after these entries, is what the tokens answer
pub record AreFirst (tokens : List Token) (entries : List Entry) (rest : List Token) : Type 0 where
  pub goes_on : (answer : Result (List Entry) Fault) → AreEntries rest answer → AreEntries tokens (behind_entries entries answer)

pub none_before : (tokens : List Token) → AreFirst tokens [] tokens
none_before tokens = record { goes_on = λ answer is. subst (AreEntries tokens) (none_behind answer) is }

entry_first : (chunk : List Token) (cut : List (List Token)) (entry : Entry) → IsEntry chunk entry → (answer : Result (List Entry) Fault)
    → EachInOrder IsEntryAnswer cut answer → EachInOrder IsEntryAnswer (chunk ∷ cut) (behind_entries (entry ∷ []) answer)
entry_first chunk cut entry is (Ok entries) others = inl (entry, is, inl (entries, others, refl))
entry_first chunk cut entry is (Err fault) others = inl (entry, is, inr (fault, others, refl))

module _ (tokens : List Token) (entries : List Entry) (rest : List Token) (front : AreFirst tokens entries rest) where
  pub one_more : (chunk behind : List Token) (entry : Entry) → chunks rest ≡ chunk ∷ chunks behind → IsEntry chunk entry → AreFirst tokens (entries ++ entry ∷ []) behind
  one_more chunk behind entry cut is =
      record {
        goes_on = λ answer others.
            subst (AreEntries tokens) (one_behind entries entry answer)
            (front.goes_on (behind_entries (entry ∷ []) answer)
            (subst (λ (cs : List (List Token)). EachInOrder IsEntryAnswer cs (behind_entries (entry ∷ []) answer)) (sym cut) (entry_first chunk (chunks behind) entry is answer others)));
      }

  pub refused : (chunk : List Token) (others : List (List Token)) (fault : Fault) → chunks rest ≡ chunk ∷ others → IsEntryAnswer chunk (Err fault) → AreEntries tokens (Err fault)
  refused chunk others fault cut is =
      front.goes_on (Err fault) (subst (λ (cs : List (List Token)). EachInOrder IsEntryAnswer cs (Err fault)) (sym cut) (inr (fault, is, refl)))

  pub all_read : rest ≡ [] → AreEntries tokens (Ok entries)
  all_read none =
      subst (AreEntries tokens) (ap (λ (all : List Entry). Ok all) (append-nil entries))
      (front.goes_on (Ok []) (subst (λ (ts : List Token). AreEntries ts (Ok [])) (sym none) refl))
