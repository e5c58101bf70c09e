-- How a run ends that carries out an answer.
use Rattle.std.proofs.Common.{◌≡◌, ◌⊎◌, inl, inr, refl, sym}
use Rattle.rz_tools_answer.specs.Answer.{Answer}
use Rattle.rz_tools_answer.specs.Carried.{CarriesOut}
use Rattle.rz_tools_answer.specs.World.{ReadFailed, World, WriteFailed}
use Rattle.rz_tools_answer.specs.declared.outcome.Outcome.{Outcome}
use Rattle.rz_tools_answer.specs.declared.outcome.Outcome.TheVariants.{Done, Usage, Refused, ReadFault, WriteFault, NoMemory}

pub complete : (answer : Answer) (before after : World) (result : Outcome) → CarriesOut answer before after result
    → (result ≡ answer.outcome) ⊎ (result ≡ NoMemory) ⊎ ReadFailed before after ⊎ ((answer.outcome ≡ Done) × WriteFailed before after)
complete answer before after Done carried = inl (sym carried.ends.0)
complete answer before after (Usage fault) carried = inl (sym carried.ends.0)
complete answer before after (Refused fault) carried = inl (sym carried.ends.0)
complete answer before after ReadFault carried = inr (inr (inl carried.ends.0))
complete answer before after WriteFault carried = inr (inr (inr (carried.ends.0, carried.ends.1)))
complete answer before after NoMemory carried = inr (inl refl)
