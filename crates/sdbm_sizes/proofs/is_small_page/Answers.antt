use Rattle.sdbm_sizes.proofs.is_small_page.Goals as goal

pub returns-in_default-fault : goal.returns-in_default-fault
returns-in_default-fault g c = λ _. c.in-Err.ensures.none c.in_default-fault.not-NoMemory
