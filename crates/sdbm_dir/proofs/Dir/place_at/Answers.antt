use Rattle.std.proofs.Common.{sym, ap, ◌∙◌, bit_and}
use Rattle.std.proofs.lemmas.Nat.{and_mask}
use Rattle.sdbm_addr.proofs.DirectoryLemmas.{page_of_depth}
use Rattle.sdbm_dir.proofs.Dir.place_at.Goals as goal

pub returns-clause-low_bits : goal.returns-clause-low_bits
returns-clause-low_bits g c = ap (bit_and c.args.hash) c.mask.ensures ∙ and_mask c.args.hash c.args.depth

pub returns-clause-page : goal.returns-clause-page
returns-clause-page g c = returns-clause-low_bits g c ∙ sym (page_of_depth c.args.self.now.splits c.requires.directory c.args.hash c.args.depth c.requires.depth)
