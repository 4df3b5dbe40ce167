use Rattle.std.proofs.Common.{rules}
use Rattle.store_parts.proofs.part.open_next_part.Goals as goal

pub returns : goal.returns
returns c = record {
  database = c.place.ensures.database;
  known = c.in_ok-image.ensures;
  place = c.place.result;
  leads = record { depth = c.place.ensures.depth; shallow = c.place.ensures.shallow; low_bits = c.place.ensures.low_bits; bit = c.place.ensures.bit };
  here = search rules;
}
