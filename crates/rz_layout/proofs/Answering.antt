-- What `lay_row` answers, from what is laid.
use Rattle.std.proofs.Common.{◌≡◌, ℕ, ◌%◌, ◌<◌, Bool, true, List, length, Result, Ok, Err, refl, subst}
use Rattle.std.specs.Prelude.{slice_index}
use Rattle.rz_core.specs.Stop.{OnFault, Gives, Meets, fault_seen}
use Rattle.rz_core.specs.declared.facts.Facts.{Facts}
use Rattle.rz_core.specs.declared.stop.Stop.{Stop}
use Rattle.rz_core.specs.declared.stop.Stop.TheVariants.{NoMemory, Refused}
use Rattle.rz_bits.specs.Bits.{bits_of, bytes_of}
use Rattle.rz_bits.specs.BitBuf.{filled}
use Rattle.rz_layout.specs.Compiled.{is_compile_fault, IsCompiled}
use Rattle.rz_layout.specs.Fault.{refusal_of}
use Rattle.rz_layout.specs.declared.fault.LayFault.{LayFault}
use Rattle.rz_types_fields.specs.declared.tree.Tree.{Tree}
use Rattle.rz_types_fields.specs.Laid.{laid, Refusal}
use Rattle.rz_types_fields.specs.Row.{IsRow}
use Rattle.rz_types_fields.specs.Field.{PlainBody}
use Rattle.rz_types.specs.Kept.{IsKept}
use Rattle.rz_layout.proofs.Apart.{kept_apart}
use Rattle.rz_layout.proofs.Complete.{complete}
use Rattle.rz_layout.proofs.Sound.{sound}
use Rattle.rz_layout.proofs.Faults.{Known}

module _ (read : (bytes : List ℕ) → ((k : ℕ) → slice_index bytes k < 256) → bytes_of (bits_of bytes) ≡ bytes)
    (written : (bits : List Bool) → length bits % 8 ≡ 0 → bits_of (bytes_of bits) ≡ bits) (multiple : (unit : ℕ) (bits : List Bool) → 0 < unit → length (filled unit bits) % unit ≡ 0)
    (small : (bits : List Bool) (k : ℕ) → slice_index (bytes_of bits) k < 256)
    (known : Facts) (body : PlainBody) (row : List Tree) where
  -- an answer is what is laid
  pub answer_is : (answer : Result (List ℕ) Refusal) → IsCompiled known body row answer → laid known body row ≡ answer
  answer_is (Ok bytes) it = complete read known body row bytes it
  answer_is (Err fault) it = it.1

  module _ (kept : IsKept body) (are : IsRow body row) where
    pub laid_is : (answer : Result (List ℕ) Refusal) → laid known body row ≡ answer → IsCompiled known body row answer
    laid_is (Ok bytes) is = sound written multiple small known body (kept_apart body kept) row bytes are is
    laid_is (Err fault) is = (are, is)

    pub one_answer : (answer : Result (List ℕ) Refusal) × IsCompiled known body row answer
    one_answer = (laid known body row, laid_is (laid known body row) refl)

    pub compiled : (result : Result (List ℕ) (Stop LayFault)) → Gives (laid known body row) (fault_seen refusal_of result) → Meets (fault_seen refusal_of result) (IsCompiled known body row)
    compiled (Ok bytes) gives = laid_is (Ok bytes) gives
    compiled (Err (Refused fault)) gives = laid_is (Err (refusal_of fault)) gives
    compiled (Err NoMemory) gives = tt

  pub every_answer : (result : Result (List ℕ) (Stop LayFault)) → Gives (laid known body row) (fault_seen refusal_of result) → (answer : Result (List ℕ) Refusal) → IsCompiled known body row answer → Gives answer (fault_seen refusal_of result)
  every_answer result gives answer it = subst (λ (a : Result (List ℕ) Refusal). Gives a (fault_seen refusal_of result)) (answer_is answer it) gives

pub known_number : (known : Result (List ℕ) Refusal) → Known known → (result : Result (List ℕ) (Stop LayFault)) → Gives known (fault_seen refusal_of result)
    → OnFault result (λ fault. is_compile_fault fault.number ≡ true)
known_number known is (Ok bytes) gives = tt
known_number known is (Err (Refused fault)) gives = subst Known gives is
known_number known is (Err NoMemory) gives = tt
