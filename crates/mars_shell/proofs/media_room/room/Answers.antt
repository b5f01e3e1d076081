use Rattle.std.proofs.Common.{◌≡◌, refl, map, string_bytes}
use Rattle.command_words.specs.declared.words.Words.TheVariants.{Format}
use Rattle.command_words.specs.declared.words.FormatNumbers.{FormatNumbers}
use Rattle.command_words.proofs.OneAsked.{one_command}
use Rattle.mars_shell.specs.Formats.{HasAsked}
use Rattle.mars_shell.proofs.media_room.room.Goals as goal

inner : {numbers other : FormatNumbers} → Format numbers ≡ Format other → other ≡ numbers
inner same = cc same

pub returns-in-Ok-Format : goal.returns-in-Ok-Format
returns-in-Ok-Format c =
    let words = map string_bytes c.args.words.now in
    let asked = rw c.in-Ok-Format.field-0-is at c.in-Ok-Format.ensures.asked in
    record {
      made = λ shape asks.
          let same = inner (one_command words (Format _) (Format asks.0) asked asks.1) in
          let has : HasAsked c.in-Ok-Format.numbers shape = rw same at asks.2 in
          c.room_of.ensures.room shape has;
      none = λ no. c.room_of.ensures.no_room (λ can. no (record { loggers = _; numbers = _; entries = _; pages = _; in_range = can })
          (c.in-Ok-Format.numbers, asked, record { loggers_are = refl; numbers_are = refl; entries_are = refl; pages_are = refl }));
    }

pub returns-in-Err-NoCommand : goal.returns-in-Err-NoCommand
returns-in-Err-NoCommand c =
    let nothing = (rw c.in-Err-NoCommand.field-0-is at c.in-Err-NoCommand.ensures.refused) refl in
    record {
      made = λ shape asks. absurd (nothing (Format asks.0) asks.1);
      none = λ _. refl;
    }
