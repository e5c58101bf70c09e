use Rattle.rz_types_format.proofs.Texts.{plain_text}
use Rattle.rz_types_format.proofs.laws.plain_text_is_copied.Goals as goal

pub returns : goal.returns
returns c = plain_text
