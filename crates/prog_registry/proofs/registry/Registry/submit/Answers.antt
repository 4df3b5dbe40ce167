use Rattle.prog_registry.proofs.Submitted.{length_told, too_long_told, structure_told}
use Rattle.prog_registry.proofs.registry.Registry.submit.Goals as goal

pub returns-clause-length : goal.returns-clause-length
returns-clause-length g c = length_told c.args.self.now c.number.new.self c.args.image.now c.number.result c.number.ensures.programs c.number.ensures.ok c.number.ensures.err

pub returns-clause-too_long : goal.returns-clause-too_long
returns-clause-too_long g c = too_long_told c.args.self.now c.number.new.self c.args.image.now c.number.result c.number.ensures.programs c.number.ensures.ok c.number.ensures.err

pub returns-clause-structure : goal.returns-clause-structure
returns-clause-structure g c = structure_told c.args.self.now c.number.new.self c.args.image.now c.number.result c.number.ensures.programs c.number.ensures.ok c.number.ensures.err
