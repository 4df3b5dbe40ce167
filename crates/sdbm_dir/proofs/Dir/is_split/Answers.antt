use Rattle.std.proofs.Common.{sym, ap, ◌∙◌}
use Rattle.std.specs.FinSet as set
use Rattle.sdbm_addr.specs.DirectoryFile.{bit_of}
use Rattle.sdbm_dir.specs.Words.{word_of}
use Rattle.sdbm_dir.specs.Marks.{Marks}
use Rattle.sdbm_dir.proofs.BitmapLemmas.{contains-word_of}
use Rattle.sdbm_dir.proofs.Dir.is_split.Goals as goal

pub returns-clause-value : goal.returns-clause-value
returns-clause-value g c =
    c.is_set.ensures ∙ ap (λ bytes. bit_of bytes c.args.bit) c.as_slice.ensures.value ∙ sym (contains-word_of c.self.inside.bits.items c.args.bit)
    ∙ ap (λ (m : Marks). set.contains m.splits (word_of c.args.bit)) c.self.view_is
