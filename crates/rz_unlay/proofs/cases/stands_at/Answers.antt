use Rattle.std.proofs.Common.{List, Some, sym, ap, ◌∙◌, subst}
use Rattle.rz_bits.specs.View.{seen}
use Rattle.rz_types_fields.specs.declared.field.Field.{Field}
use Rattle.rz_types.specs.Field.{plain_body}
use Rattle.rz_types.specs.Width.{case_keys}
use Rattle.rz_unlay.specs.Cursor.{has_keys}
use Rattle.rz_unlay.specs.Fits.{AreFit, HasKeyFrom}
use Rattle.rz_unlay.proofs.KeyedCases.{fit_here, key_here, keys_here, none_there}
use Rattle.rz_unlay.proofs.cases.stands_at.Goals as goal

pub has_keys-requires-clause-key : goal.has_keys-requires-clause-key
has_keys-requires-clause-key c =
    subst (λ (fields : List Field). HasKeyFrom (Some 0) (plain_body fields)) (sym c.as_slice.ensures)
    (key_here c.args.cases.now c.args.position c.index-cases-position.result c.if-position-cases.true c.index-cases-position.is c.requires.fits)

pub has_keys-requires-clause-fits : goal.has_keys-requires-clause-fits
has_keys-requires-clause-fits c =
    subst (λ (fields : List Field). AreFit (plain_body fields)) (sym c.as_slice.ensures)
    (fit_here c.args.cases.now c.args.position c.index-cases-position.result c.if-position-cases.true c.index-cases-position.is c.requires.fits)

pub returns-then-position-cases : goal.returns-then-position-cases
returns-then-position-cases c =
    c.has_keys.ensures
    ∙ ap (λ (fields : List Field). has_keys (seen c.args.view.now) c.args.at (case_keys (plain_body fields))) c.as_slice.ensures
    ∙ sym (keys_here c.args.cases.now c.args.position c.index-cases-position.result c.if-position-cases.true c.index-cases-position.is (seen c.args.view.now) c.args.at)

pub returns-else-position-cases : goal.returns-else-position-cases
returns-else-position-cases c = none_there (seen c.args.view.now) c.args.at c.args.cases.now c.args.position c.if-position-cases.false
