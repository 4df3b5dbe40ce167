use Rattle.std.proofs.Common.{refl}
use Rattle.std.proofs.lemmas.Bool.{false≢true}
use Rattle.sdbm_sizes.proofs.Parts.{no_page}
use Rattle.sdbm_sizes.proofs.is_small_part.Goals as goal

pub returns-then-not-branch : goal.returns-then-not-branch
returns-then-not-branch g c = (
  λ t. absurd (false≢true t),
  λ part. absurd (no_page c.args.kind c.args.dir.now c.args.number c.args.page.now (c.in_ok-is_small_page.ensures c.if-not-branch.true) part),
)

pub returns : goal.returns
returns g c = (
  λ _. record {
    db = c.in-Some._image;
    kind_is = rw c.in-Some.is at c.in_ok-_image.ensures.kind;
    size_is = rw c.in-Some.is at c.in_ok-_image.ensures.size;
    database = rw c.in-Some.is at c.in_ok-_image.ensures.database;
    directory = rw c.in-Some.is at c.in_ok-_image.ensures.directory;
    page = rw c.in-Some.is at c.in_ok-_image.ensures.page;
  },
  λ _. refl,
)
