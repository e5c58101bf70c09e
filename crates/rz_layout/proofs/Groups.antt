-- Numbers of a point or a rectangle, one more at a time.
use Rattle.std.proofs.Common.{◌≡◌, ℕ, ◌+◌, ◌<◌, List, length, get_or, drop, map, Result, Ok, Err, sym, ap, ◌∙◌}
use Rattle.rz_layout.specs.Fault.{refusal_of}
use Rattle.std.specs.Prelude.{replicate}
use Rattle.std.proofs.lemmas.List.{drop_more}
use Rattle.rz_core.specs.Stop.{◌>>=◌, Gives, fault_seen, left}
use Rattle.rz_core.specs.declared.facts.Facts.{Facts}
use Rattle.rz_core.specs.declared.stop.Stop.{Stop}
use Rattle.rz_core.specs.declared.stop.Stop.TheVariants.{NoMemory, Refused}
use Rattle.rz_bits.specs.Bits.{number_bits}
use Rattle.rz_layout.specs.Laid.{with_bits}
use Rattle.rz_layout.specs.declared.fault.LayFault.{LayFault}
use Rattle.rz_types_fields.specs.declared.tree.Tree.TheVariants as trees
use Rattle.rz_types_fields.specs.Laid.{in_order, lay, takes_one, Draft, Refusal}
use Rattle.rz_types_fields.specs.Piece.{free_integer}
use Rattle.rz_layout.proofs.Trees.{number_is}

module _ (known : Facts) where
  module _ (numbers : List ℕ) (i : ℕ) (less : i < length numbers) (draft : Draft) (all : Result Draft Refusal)
      (so : in_order takes_one (lay known) draft (replicate (length (drop i numbers)) free_integer) (map trees.Number (drop i numbers)) ≡ all) where
    abbrev pub group_behind : Draft → Result Draft Refusal
    group_behind next = in_order takes_one (lay known) next (replicate (length (drop (i + 1) numbers)) free_integer) (map trees.Number (drop (i + 1) numbers))

    all_is : (with_bits draft (number_bits 16 (get_or numbers i 0)) >>= group_behind) ≡ all
    all_is =
        sym (ap (λ (n : ℕ). with_bits draft (number_bits 16 n) >>= group_behind) (number_is (get_or numbers i 0)))
        ∙ sym (ap (λ (ns : List ℕ). in_order takes_one (lay known) draft (replicate (length ns) free_integer) (map trees.Number ns)) (drop_more numbers i 0 less))
        ∙ so

    pub number_refused : (stop : Stop LayFault) (after : Draft) → Gives (with_bits draft (number_bits 16 (get_or numbers i 0))) (fault_seen refusal_of (left after (Err stop))) → (other : Draft) → Gives all (fault_seen refusal_of (left other (Err stop)))
    number_refused NoMemory after laid other = tt
    number_refused (Refused fault) after laid other = sym all_is ∙ ap (λ (r : Result Draft Refusal). r >>= group_behind) laid

    pub number_more : (next : Draft) → with_bits draft (number_bits 16 (get_or numbers i 0)) ≡ Ok next → group_behind next ≡ all
    number_more next laid = sym (ap (λ (r : Result Draft Refusal). r >>= group_behind) laid) ∙ all_is
