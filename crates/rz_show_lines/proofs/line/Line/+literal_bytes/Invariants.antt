use Rattle.rz_show_lines.proofs.line.Line.+literal_bytes.Given as goal

abbrev pub decreases-literal_bytes : goal.decreases-literal_bytes
decreases-literal_bytes l = l.count
