-- What the code says that an expression mentions, as contracts see it.
use Rattle.rz_expr.specs.Mention.{alone, around, counted, fact, indexed, with_bits}
use Rattle.rz_expr.specs.Mention as terms
use Rattle.rz_expr.specs.declared.mention.Mention.{Mention}
use Rattle.rz_expr.specs.declared.mention.Mention.TheVariants.{Alone, Around, Counted, Fact, Indexed, WithBits}

abbrev pub mention_of : Mention → terms.Mention
mention_of (Alone name) = alone name.now.bytes
mention_of (Indexed name) = indexed name.now.bytes
mention_of (Counted name) = counted name.now.bytes
mention_of (Around name) = around name.now.bytes
mention_of (WithBits name) = with_bits name.now.bytes
mention_of (Fact which) = fact which
