use Rattle.rz_show_lines.proofs.CutLine.{line_printed}
use Rattle.rz_show_lines.proofs.laws.printed_line.Goals as goal

pub returns : goal.returns
returns c =
    let law = c.cut_back.ensures in
    line_printed (record {
      word = law.word;
      number = law.number;
      spelled = law.spelled;
      literal = law.literal;
      text = law.text;
      octal = law.octal;
      hexadecimal = law.hexadecimal;
      binary = law.binary;
      dollar_digits = law.dollar_digits;
      hex_bytes = law.hex_bytes;
      sign = law.sign;
      empty = law.empty;
      token = law.token;
      blank = law.blank;
    })
