use Rattle.rz_laws.proofs.TextsAgain.{changed_again}
use Rattle.rz_laws.proofs.catalog_fork.changed_forks_have_the_texts.Goals as goal

pub returns : goal.returns
returns c =
    changed_again c.admitted_forks_fit.ensures c.admitted_lists_are_grouped.ensures c.written_forks_are_of_their_lists.ensures c.written_forks_are_bytes.ensures
    c.trees_are_decided.ensures c.others_stay.ensures c.changed_catalogue.ensures
