-- Which templates can be read: closed ones, whose bytes say where each entry ends.
use Rattle.std.specs.Prelude.{Bool, true, false, ◌&&◌}
use Rattle.rz_tmpl.specs.Items.{count, list, none, one, Items}
use Rattle.rz_tmpl.specs.declared.entry.ListForm.TheVariants.{Counted, Uncounted}
use Rattle.rz_tmpl.specs.declared.entry.Plain.{Plain}
use Rattle.rz_tmpl.specs.declared.entry.Plain.TheVariants.{Aligned, Pascal, Rest, ZeroEnded}

-- numbers, characters, names of types, rectangles and zeros have a fixed length
abbrev pub is_fixed_one : Plain → Bool
is_fixed_one (Aligned size) = false
is_fixed_one Pascal = false
is_fixed_one ZeroEnded = false
is_fixed_one Rest = false
is_fixed_one plain = true

abbrev pub is_fixed : Items → Bool
is_fixed none = true
is_fixed (one plain rest) = is_fixed_one plain && is_fixed rest
is_fixed (count form rest) = false
is_fixed (list form row rest) = false

-- a row has no text to the end and no list without a count
abbrev pub is_inner : Items → Bool
is_inner none = true
is_inner (one Rest rest) = false
is_inner (one plain rest) = is_inner rest
is_inner (count form rest) = is_inner rest
is_inner (list Counted row rest) = is_inner row && is_inner rest
is_inner (list Uncounted row rest) = false

-- after a text to the end, or a list without a count, all have a fixed length
abbrev pub is_closed : Items → Bool
is_closed none = true
is_closed (one Rest rest) = is_fixed rest
is_closed (one plain rest) = is_closed rest
is_closed (count form rest) = is_closed rest
is_closed (list Counted row rest) = is_inner row && is_closed rest
is_closed (list Uncounted row rest) = is_inner row && is_fixed rest
