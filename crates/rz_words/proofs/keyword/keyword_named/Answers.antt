use Rattle.std.proofs.Common.{length, ◌∙◌, refl, arith}
use Rattle.rz_words.proofs.ByLength.{by_length, no_keyword}
use Rattle.rz_words.proofs.keyword.keyword_named.Goals as goal

pub returns-in-2 : goal.returns-in-2
returns-in-2 c = c.spelled_among.ensures ∙ by_length 2 c.args.name.now c.in-2.is

pub returns-in-3 : goal.returns-in-3
returns-in-3 c = c.spelled_among-in-3.ensures ∙ by_length 3 c.args.name.now c.in-3.is

pub returns-in-4 : goal.returns-in-4
returns-in-4 c = c.spelled_among-in-4.ensures ∙ by_length 4 c.args.name.now c.in-4.is

pub returns-in-5 : goal.returns-in-5
returns-in-5 c = c.spelled_among-in-5.ensures ∙ by_length 5 c.args.name.now c.in-5.is

pub returns-in-6 : goal.returns-in-6
returns-in-6 c = c.spelled_among-in-6.ensures ∙ by_length 6 c.args.name.now c.in-6.is

pub returns-in-7 : goal.returns-in-7
returns-in-7 c = c.spelled_among-in-7.ensures ∙ by_length 7 c.args.name.now c.in-7.is

pub returns-in-8 : goal.returns-in-8
returns-in-8 c = c.spelled_among-in-8.ensures ∙ by_length 8 c.args.name.now c.in-8.is

pub returns-in-9 : goal.returns-in-9
returns-in-9 c = c.spelled_among-in-9.ensures ∙ by_length 9 c.args.name.now c.in-9.is

pub returns-in_default : goal.returns-in_default
returns-in_default c =
    no_keyword c.args.name.now (length c.args.name.now) refl (λ is. omega arith) (λ is. omega arith) (λ is. omega arith) (λ is. omega arith)
    (λ is. omega arith) (λ is. omega arith) (λ is. omega arith) (λ is. omega arith)
