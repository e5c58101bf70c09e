use Rattle.rz_tools_laws.proofs.PutBack.{put_back_again}
use Rattle.rz_tools_laws.proofs.Raw.{output_image}
use Rattle.rz_tools.specs.Restring.{target_named}
use Rattle.std.proofs.Common.{sym, ◌∙◌}
use Rattle.rz_tools_laws.proofs.laws.own_strings_change_nothing.Goals as goal

pub returns-clause-answer : goal.returns-clause-answer
returns-clause-answer c words others listed asked files after moment bytes base answer =
    put_back_again c.catalogues_are_put_back.ensures c.one_command.ensures.command words others listed asked files after moment bytes base answer

pub returns-clause-image : goal.returns-clause-image
returns-clause-image c name moment base bytes output raw is made = output_image (target_named name) moment base base.fork.list output raw made ∙ sym is
