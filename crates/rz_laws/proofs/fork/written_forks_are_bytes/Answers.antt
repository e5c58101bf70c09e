use Rattle.rz_laws.proofs.Image.{fork_bytes}
use Rattle.rz_laws.proofs.fork.written_forks_are_bytes.Goals as goal

pub returns : goal.returns
returns c = fork_bytes
