use Rattle.std.proofs.Common.{List, Some, sym, ap, ◌∙◌, subst}
use Rattle.rz_bits.specs.View.{seen}
use Rattle.rz_types_fields.specs.declared.field.Field.{Field}
use Rattle.rz_types.specs.Field.{plain_body}
use Rattle.rz_types.specs.Width.{case_keys}
use Rattle.rz_unlay.specs.Cursor.{has_keys}
use Rattle.rz_unlay.specs.Fits.{AreFit, HasKeyFrom}
use Rattle.rz_unlay.proofs.KeyedCases.{fit_here, key_here, there_here, there_later, there_never}
use Rattle.rz_unlay.proofs.cases.first_there.Goals as goal

pub has_keys-requires-clause-key : goal.has_keys-requires-clause-key
has_keys-requires-clause-key c =
    subst (λ (fields : List Field). HasKeyFrom (Some 0) (plain_body fields)) (sym c.as_slice.ensures)
    (key_here c.args.cases.now c.loop-position.position c.index-cases-position.result c.loop-position-test.true c.index-cases-position.is c.requires.fits)

pub has_keys-requires-clause-fits : goal.has_keys-requires-clause-fits
has_keys-requires-clause-fits c =
    subst (λ (fields : List Field). AreFit (plain_body fields)) (sym c.as_slice.ensures)
    (fit_here c.args.cases.now c.loop-position.position c.index-cases-position.result c.loop-position-test.true c.index-cases-position.is c.requires.fits)

pub returns-then-has_keys-clause-there : goal.returns-then-has_keys-clause-there
returns-then-has_keys-clause-there c =
    there_here c.args.cases.now c.loop-position.position c.index-cases-position.result c.loop-position-test.true c.index-cases-position.is (seen c.args.view.now) c.args.at _
    c.loop-position.invariant
    (ap (λ (fields : List Field). has_keys (seen c.args.view.now) c.args.at (case_keys (plain_body fields))) (sym c.as_slice.ensures) ∙ sym c.has_keys.ensures ∙ c.if-has_keys.true)

pub loop-position-preserved : goal.loop-position-preserved
loop-position-preserved c =
    there_later c.args.cases.now c.loop-position.position c.index-cases-position.result c.loop-position-test.true c.index-cases-position.is (seen c.args.view.now) c.args.at _
    c.loop-position.invariant
    (ap (λ (fields : List Field). has_keys (seen c.args.view.now) c.args.at (case_keys (plain_body fields))) (sym c.as_slice.ensures) ∙ sym c.has_keys.ensures ∙ c.if-has_keys.false)

pub returns-clause-there : goal.returns-clause-there
returns-clause-there c =
    there_never (seen c.args.view.now) c.args.at c.args.cases.now c.loop-position.position _ c.loop-position-test.false c.loop-position.invariant
