-- What is told under the template of the entries is what they say.
use Rattle.std.proofs.Common.{◌≡◌, ◌↔◌, ℕ, ◌+◌, ◌^◌, ◌≤◌, true, false, List, length, Option, Some, None, Ok, Err, refl, sym, ap, subst, ◌∙◌, arith}
use Rattle.std.specs.declared.result.Result.{Result}
use Rattle.rz_core.specs.Decided.{Decided}
use Rattle.rz_core.specs.declared.facts.Facts.{Facts}
use Rattle.rz_tmpl.specs.Body.{lists_of, tmpl_body}
use Rattle.rz_tmpl.specs.Closed.{is_closed}
use Rattle.rz_tmpl.specs.Template.{HasBody}
use Rattle.rz_tmpl.specs.Cut.{IsCut}
use Rattle.rz_tmpl.specs.Items.{is_kept, waits, Items}
use Rattle.rz_tmpl.specs.declared.fault.TmplFault.{TmplFault}
use Rattle.rz_tmpl_laws.proofs.Few.{are_whole}
use Rattle.rz_tmpl_laws.specs.Reading.{AreRead, IsSaid}
use Rattle.rz_tmpl_laws.specs.Says.{Says}
use Rattle.rz_types.specs.Readable.{is_readable}
use Rattle.rz_types_fields.specs.Field.{PlainBody}
use Rattle.rz_types_fields.specs.Spells.{SpellsPlainly}
use Rattle.rz_types_fields.specs.declared.tree.Tree.{Tree}
use Rattle.rz_unlay.specs.Reading.{IsTold}

decided_so : {X : Type 0} (P Q : X → Type 0) (found : Option X) → ((x : X) → P x ↔ Q x) → Decided P found → Decided Q found
decided_so P Q None same is = λ x so. is x ((same x).1 so)
decided_so P Q (Some x) same is = (same x).0 is

-- the laws
abbrev pub Plainly : Type 0
Plainly = (known : Facts) (items : Items) (row : List Tree) (bytes : List ℕ) → is_kept 60 false items ≡ true → waits false items ≡ false → 1 + lists_of items ≤ 2 ^ 64
    → SpellsPlainly known (tmpl_body items) row bytes ↔ Says items row bytes

abbrev pub Closes : Type 0
Closes = (items : Items) → is_kept 60 false items ≡ true → waits false items ≡ false → is_readable (tmpl_body items) ≡ is_closed items

module _ (plainly : Plainly) (closes : Closes) (tmpl : List ℕ) (counted : 1 + length tmpl ≤ 2 ^ 64) (known : Facts) (bytes : List ℕ) where
  told_is : (items : Items) → IsCut tmpl (Ok items) → (row : List Tree) → IsTold known (tmpl_body items) bytes row ↔ IsSaid items bytes row
  told_is items cut row =
      let is = are_whole tmpl items cut in
      let few = is.few in
      let same = plainly known items row bytes is.kept is.ends (omega (arith, few, counted)) in
      let readable = closes items is.kept is.ends in
      ((λ told. (sym readable ∙ told.0, same.0 told.1)), (λ said. (readable ∙ said.0, same.1 said.1)))

  pub reading_is : (body : PlainBody) (found : Option (List Tree)) → HasBody tmpl (Ok body) → Decided (IsTold known body bytes) found → AreRead tmpl bytes (Ok found)
  reading_is body found (Ok items, cut, same) told =
      let own : tmpl_body items ≡ body = cc in
      (Ok items, cut, (found, refl, decided_so (IsTold known (tmpl_body items) bytes) (IsSaid items bytes) found (told_is items cut) (subst (λ (b : PlainBody). Decided (IsTold known b bytes) found) (sym own) told)))
  reading_is body found (Err fault, cut, same) told = absurd cc

  pub said_told : ((bytes : List ℕ) (one other : Result Items TmplFault) → IsCut bytes one → IsCut bytes other → one ≡ other)
      → (body : PlainBody) → HasBody tmpl (Ok body) → (items : Items) (row : List Tree) → IsCut tmpl (Ok items) → IsSaid items bytes row → IsTold known body bytes row
  said_told once body (Ok own, cut, same) items row also said =
      let equal = once tmpl (Ok items) (Ok own) also cut in
      let body_is : tmpl_body items ≡ body = (let one : items ≡ own = cc equal in ap tmpl_body one) ∙ (let one : tmpl_body own ≡ body = cc same in one) in
      subst (λ (b : PlainBody). IsTold known b bytes row) body_is ((told_is items also row).1 said)
  said_told once body (Err fault, cut, same) items row also said = absurd cc
