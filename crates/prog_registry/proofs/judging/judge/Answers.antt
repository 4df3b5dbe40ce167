use Rattle.prog_registry.proofs.Codes.{image_sized}
use Rattle.prog_registry.proofs.judging.judge.Goals as goal

pub returns-in-Err-NoMemory-default-clause-err : goal.returns-in-Err-NoMemory-default-clause-err
returns-in-Err-NoMemory-default-clause-err g c = image_sized c.in_ok-code.code c.args.image.now c.in_ok-code.ensures.ok
