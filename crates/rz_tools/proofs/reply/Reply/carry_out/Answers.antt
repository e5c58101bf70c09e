use Rattle.std.proofs.Common.{[], Ok, refl, subst}
use Rattle.rz_told.specs.Held.{text_of}
use Rattle.rz_tools_answer.proofs.Carried.{text_tried}
use Rattle.rz_tools_text.specs.Chosen.{chosen}
use Rattle.rz_tools_text.specs.Held.{known_of}
use Rattle.rz_tools.specs.Held.{making_with}
use Rattle.rz_tools.specs.Reply.{IsSound}
use Rattle.rz_tools.proofs.Replied.{list_ended, list_replied, text_ended, text_ends, text_replied}
use Rattle.rz_tools.proofs.reply.Reply.carry_out.Goals as goal

pub returns-in-Text-clause-carried : goal.returns-in-Text-clause-carried
returns-in-Text-clause-carried g c =
    let t = c.in-Text.shown.text in
    let fork = (subst IsSound c.in-Text.is c.requires).0.1 in
    let text = c.every_list_is_shown.ensures (known_of t.known) (chosen t.only t.skip fork.0.list) in
    text_replied c.args.self c.in-Text.shown c.in-Text.is c.say_end.result text.0 (fork.0, fork.1, text.1) _ _
    (text_ends (making_with text.0 c.in-Text.shown) _ _ refl refl c.put-put.result _ _ c.as_slice.ensures c.say_end.ensures.outcome
    (c.put-put.ensures.told text.0 (fork.0, fork.1, text.1)) c.put-put.ensures.counted c.say_end.ensures.says)

pub returns-in-Text-clause-ended : goal.returns-in-Text-clause-ended
returns-in-Text-clause-ended g c = text_ended c.args.self c.in-Text.shown c.in-Text.is c.say_end.result c.put-put.result c.say_end.ensures.outcome

pub returns-in-Text-clause-tried : goal.returns-in-Text-clause-tried
returns-in-Text-clause-tried g c = text_tried _ _ c.put-put.result c.say_end.result c.say_end.ensures.outcome c.put-put.ensures.counted

pub returns-in-List-clause-carried : goal.returns-in-List-clause-carried
returns-in-List-clause-carried g c =
    list_replied c.args.self c.in-List.text c.in-List.is c.say_end-in-List.result _ _
    (text_ends (record { bytes = text_of c.in-List.text; said = [] }) _ _ refl refl (Ok c.put-put-in-List.result) _ _ refl c.say_end-in-List.ensures.outcome
    c.put-put-in-List.ensures.told c.put-put-in-List.ensures.counted c.say_end-in-List.ensures.says)

pub returns-in-List-clause-ended : goal.returns-in-List-clause-ended
returns-in-List-clause-ended g c = list_ended c.args.self c.in-List.text c.in-List.is c.say_end-in-List.result c.put-put-in-List.result c.say_end-in-List.ensures.outcome

pub returns-in-List-clause-tried : goal.returns-in-List-clause-tried
returns-in-List-clause-tried g c =
    text_tried _ _ (Ok c.put-put-in-List.result) c.say_end-in-List.result c.say_end-in-List.ensures.outcome c.put-put-in-List.ensures.counted
