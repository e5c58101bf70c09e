use Rattle.rz_tools_args.proofs.Found.{never}
use Rattle.rz_tools_args.proofs.line.tokens_in.Goals as goal

pub returns-in-Err-Refused : goal.returns-in-Err-Refused
returns-in-Err-Refused c tokens cuts = never tokens _ _ (c.in-Err-Refused.ensures.every_list tokens cuts) c.in-Err-Refused.field-0-is
