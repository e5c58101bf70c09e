-- What is computed of items is their match, and there is no other.
use Rattle.std.proofs.Common.{◌≡◌, List, refl, sym, ◌∙◌}
use Rattle.std.specs.Prelude.{Ok, Err}
use Rattle.std.specs.declared.result.Result.{Result}
use Rattle.rz_core.specs.Stop.{Meets, Gives}
use Rattle.rz_core.specs.declared.facts.Facts.{Facts}
use Rattle.rz_core.specs.declared.fault.Fault.{Fault}
use Rattle.rz_core.specs.declared.fault.Mark.{Mark}
use Rattle.rz_core.specs.declared.stop.Stop.{Stop}
use Rattle.rz_core.specs.declared.stop.Stop.TheVariants.{NoMemory, Refused}
use Rattle.rz_stmt_items.specs.Item.{PlainItem}
use Rattle.rz_stmt_items.specs.Fits.{Fits}
use Rattle.rz_stmt_items.specs.Match.{IsMatch}
use Rattle.rz_stmt_items.specs.Matched.{matched, row_matched}
use Rattle.rz_stmt_items.specs.Unfit.{RowUnfit}
use Rattle.rz_stmt_items.proofs.Lines.{RowGiven, RowSound}
use Rattle.rz_stmt_items.proofs.Nested.{row_given, row_sounds}
use Rattle.rz_stmt_items.proofs.RowLists.{whole_blamed, whole_blames, whole_complete, whole_sound}
use Rattle.rz_types_fields.specs.declared.tree.Tree.{Tree}
use Rattle.rz_types.specs.Field.{PlainBody}
use Rattle.rz_types.specs.Kept.{IsKept}
use Rattle.rz_types.specs.Walk.{names_of}

module _ (known : Facts) (place : Mark) (body : PlainBody) (items : List PlainItem) where
  given_row : RowGiven (row_matched known body place items) (Fits known body) (RowUnfit known body place items)
  given_row = row_given known body place items

  pub of_match : (answer : Result (List Tree) Fault) → IsMatch known place body items answer → matched known place body items ≡ answer
  of_match (Ok row) fits = whole_complete (row_matched known body place items) (Fits known body) (RowUnfit known body place items) given_row items row fits
  of_match (Err fault) unfit = whole_blames (row_matched known body place items) (Fits known body) (RowUnfit known body place items) given_row items fault unfit

  pub one_answer : (answer other : Result (List Tree) Fault) → IsMatch known place body items answer → IsMatch known place body items other → answer ≡ other
  one_answer answer other is also = sym (of_match answer is) ∙ of_match other also

  pub gives : (result : Result (List Tree) (Stop Fault)) → Gives (matched known place body items) result
      → (answer : Result (List Tree) Fault) → IsMatch known place body items answer → Gives answer result
  gives (Ok row) given answer is = sym (of_match answer is) ∙ given
  gives (Err (Refused fault)) given answer is = sym (of_match answer is) ∙ given
  gives (Err NoMemory) given answer is = tt

  module _ (kept : IsKept body) where
    sounds : RowSound (row_matched known body place items) (Fits known body) (RowUnfit known body place items)
    sounds = row_sounds known (names_of body) body place items kept.1

    pub match_of : (answer : Result (List Tree) Fault) → matched known place body items ≡ answer → IsMatch known place body items answer
    match_of (Ok row) e = whole_sound (row_matched known body place items) (Fits known body) (RowUnfit known body place items) sounds items row e
    match_of (Err fault) e = whole_blamed (row_matched known body place items) (Fits known body) (RowUnfit known body place items) sounds items fault e

    pub some_answer : (answer : Result (List Tree) Fault) × IsMatch known place body items answer
    some_answer = (matched known place body items, match_of (matched known place body items) refl)

    pub meets : (result : Result (List Tree) (Stop Fault)) → Gives (matched known place body items) result → Meets result (IsMatch known place body items)
    meets (Ok row) gives = match_of (Ok row) gives
    meets (Err (Refused fault)) gives = match_of (Err fault) gives
    meets (Err NoMemory) gives = tt
