use Rattle.std.proofs.Common.{◌≡◌, map, take, string_bytes}
use Rattle.rz_tools_host.proofs.mem_host.MemHostHost.args.Given as goal

abbrev pub invariant-loop-arg : goal.invariant-loop-arg
invariant-loop-arg l = map string_bytes l.texts.items ≡ map (λ arg. arg.now) (take l.arg-index l.self.args.now)
