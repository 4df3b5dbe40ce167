use Rattle.std.proofs.Common.{rules, ◌≡◌, ℕ, List, subst}
use Rattle.sdbm_addr.specs.DirectoryFile.{SpellsDirectory}
use Rattle.sdbm_dir.proofs.FileLemmas.{AreFaultless-spells}
use Rattle.sdbm_files.proofs.opening.reread_dir.Goals as goal

pub returns-in-Err-clause-fault : goal.returns-in-Err-clause-fault
returns-in-Err-clause-fault g c =
    let same : c.bytes.result.now ≡ c.args.bytes.now = search rules in
    AreFaultless-spells c.args.bytes.now c.args.known.now.splits (subst (λ (l : List ℕ). SpellsDirectory l c.args.known.now.splits) same c.bytes.ensures.spells)
