use Rattle.std.proofs.Common.{◌≡◌, Global, String, Vec, map, string_bytes, sym, ap, subst, ◌∙◌}
use Rattle.std.specs.Prelude.{IsUtf8}
use Rattle.std.specs.List.{All}
use Rattle.std.proofs.lemmas.Bool.{eqb-true}
use Rattle.std.proofs.lemmas.Str.{IsUtf8-string_bytes}
use Rattle.rz_tools_host.specs.Given.{words_of}
use Rattle.rz_tools_host.proofs.Told.{are_texts, no_words, over, words_left}
use Rattle.rz_tools_host.proofs.start.words_of.Goals.{then-not-is_empty, else-not-is_empty}
use Rattle.rz_tools_host.proofs.start.words_of.Goals as goal

pub returns-after-not-is_empty-clause-words : goal.returns-after-not-is_empty-clause-words
returns-after-not-is_empty-clause-words g c =
    let all = c.in-Ok.args.items in
    let left : map string_bytes c.if-not-is_empty.args.items ≡ words_of (map string_bytes all) = elim c.if-not-is_empty.branch [
      | then-not-is_empty w ↦ ap (λ (args : Vec (String Global) Global). map string_bytes args.items) w.args-is ∙ words_left string_bytes all _ w.remove.ensures.by_index.2
      | else-not-is_empty w ↦
          ap (λ (args : Vec (String Global) Global). map string_bytes args.items) w.args-is
          ∙ no_words string_bytes all (sym c.in-Ok.args.ok.0 ∙ eqb-true c.in-Ok.args.len 0 cc)
    ] in
    over (g.H.Host.process c.args.host.now)
    (λ process is. (subst (All IsUtf8) is (are_texts string_bytes IsUtf8-string_bytes all), left ∙ ap words_of is)) c.in-Ok.ensures
