use Rattle.rz_tools_laws.proofs.Sampled.{made_all}
use Rattle.rz_tools_laws.proofs.TypeLine.{type_printed}
use Rattle.rz_tools_laws.proofs.sample.samples_are_made.Goals as goal

pub returns : goal.returns
returns c =
    let cut = c.cut_back.ensures in
    made_all (record {
      rows = record {
        again = record {
          rows = c.spelled_rows_are_rows.ensures.plainly;
          plain = c.plain_rows_are_spelled.ensures;
          short = c.spelled_texts.ensures.plain_short;
          bytes = c.spelled_texts.ensures.bytes;
          printed = c.shown_text.ensures;
        };
        kept = c.rules_hold_within.ensures;
        good = c.printed_rows.ensures;
      };
      lines = c.lines_of_page.ensures;
      written = c.printed_line.ensures;
      type_line = type_printed (record {
        word = cut.word;
        number = cut.number;
        spelled = cut.spelled;
        literal = cut.literal;
        text = cut.text;
        octal = cut.octal;
        hexadecimal = cut.hexadecimal;
        binary = cut.binary;
        dollar_digits = cut.dollar_digits;
        hex_bytes = cut.hex_bytes;
        sign = cut.sign;
        empty = cut.empty;
        token = cut.token;
        blank = cut.blank;
      }) c.printed_line.ensures;
      found = c.forks_are_found_raw.ensures.fork;
      ended = c.statements_go_on.ensures.ended;
      on = c.statements_go_on.ensures.appended;
    })
