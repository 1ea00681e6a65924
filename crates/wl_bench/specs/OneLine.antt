-- That what a command prints is a list of lines: no line has a line feed in it.
use Rattle.std.specs.Prelude.{◌≢◌}
use Rattle.std.specs.List.{All}
use Rattle.wl_bench.specs.Answers.{Line}
use Rattle.wl_bench.specs.Record.{Recorded}

-- no byte of it is a line feed
abbrev pub IsOneLine : Line → Type 0
IsOneLine line = All (λ b. b ≢ 10) line

abbrev pub PrintsLines : Recorded → Type 0
PrintsLines t = All IsOneLine t.answer
