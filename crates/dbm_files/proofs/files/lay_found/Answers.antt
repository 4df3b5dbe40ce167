use Rattle.std.proofs.Common.{◌≡◌, ◌∙◌, ◌++◌, ℕ, List, ap}
use Rattle.sdbm_log.specs.Log.{files_of}
use Rattle.sdbm_saves.specs.Recording.{image_of}
use Rattle.dbm_files.proofs.files.lay_found.Goals as goal

pub returns : goal.returns
returns c =
    let both = c.in_ok-both.both in
    let slice : c.as_slice.result.now ≡ both.pages.items = c.as_slice.ensures.value in
    let pages : c.read_over.result.pages.bytes ≡ both.pages.items =
    ap (λ p. p.bytes) c.read_over.ensures.pages ∙ ap (λ p. p.bytes) c.in_ok-push.ensures.ok ∙ ap (λ p. p.bytes ++ c.as_slice.result.now) c.new-pages.ensures ∙ slice in
    let directory : c.read_over.result.directory.items ≡ both.directory.items = ap (λ d. d.items) c.read_over.ensures.directory in
    ap (λ (l : List ℕ). (l, c.read_over.result.directory.items)) pages ∙ ap (λ (l : List ℕ). (both.pages.items, l)) directory ∙ c.in_ok-both.ensures
