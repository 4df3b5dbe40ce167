-- The meanings of the assembler's values.
use Rattle.std.specs.Prelude.{◌≡◌, Option, Some, None, Result, Ok, Err, IfOk}
use Rattle.bpf_asm.specs.declared.line.Line.{Line}
use Rattle.bpf_asm.specs.declared.line.Line.TheVariants as lines
use Rattle.bpf_asm.specs.declared.fault.FaultKind.{FaultKind}
use Rattle.bpf_asm.specs.Lines.{Meaning, Blank, Mark, Plain, Aimed, HasSpellingIn}

-- the meaning of a line that was read
abbrev pub view_line : Line → Option Meaning
view_line lines.Blank = Some Blank
view_line (lines.Label name) = Some (Mark name.now)
view_line (lines.Plain i) = Some (Plain i)
view_line (lines.Aimed i name) = Some (Aimed i name.now)
view_line (lines.Bad kind) = None

-- reading a line returns its meaning, or an error if the line has no meaning
abbrev pub Reads : Result Line FaultKind → Option Meaning → Type 0
Reads (Ok line) o = o ≡ view_line line
Reads (Err kind) o = o ≡ None

-- each instruction that is read is in the instruction table
abbrev pub ReadsSpelled : Result Line FaultKind → Type 0
ReadsSpelled r = IfOk r (λ line. HasSpellingIn (view_line line))
