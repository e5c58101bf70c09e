use Rattle.std.proofs.Common.{◌≡◌, drop}
use Rattle.rz_words.specs.Keyword.{spelled_among}
use Rattle.rz_words.proofs.keyword.spelled_among.Given as goal

abbrev pub invariant-loop-keyword : goal.invariant-loop-keyword
invariant-loop-keyword l = spelled_among (drop l.keyword-index l.keywords) l.name ≡ spelled_among l.keywords l.name
