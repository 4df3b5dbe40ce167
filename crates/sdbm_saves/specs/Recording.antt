-- The images of the three files as they were read.
use Rattle.std.specs.Prelude.{ℕ, ◌*◌, List, ◌++◌, replicate, refl}
use Rattle.std.specs.Coded.{Coded, code_by, coded×, coded_ℕ, coded_list}
use Rattle.sdbm_addr.specs.declared.PageSize.{PageSize}
use Rattle.sdbm_addr.specs.Pairs.{page_bytes}
use Rattle.sdbm_saves.specs.declared.recorded.Found.{Found}
use Rattle.sdbm_saves.specs.declared.recorded.FoundPart.{FoundPart}
use Rattle.sdbm_saves.specs.declared.recorded.FoundRead.{FoundRead}
use Rattle.sdbm_saves.specs.declared.part.Part.{Part}
use Rattle.sdbm_saves.specs.Disk.{Image, resized}

abbrev pub image_of : Found → Image
image_of found = record { pages = found.pages.items; directory = found.directory.items; redo = found.redo.items }

abbrev pub read_image : FoundRead → Image
read_image found = record { pages = found.files.pages.now.bytes; directory = found.files.directory.now; redo = found.redo.now }

-- the bytes of `.pag` if one page was read; all other pages count as zeros
abbrev pub part_pages : Part → PageSize → List ℕ
part_pages part size = resized part.len (replicate (part.number * page_bytes size) 0 ++ part.page.now)

abbrev pub part_image : FoundPart → Image
part_image found = record { pages = part_pages found.part found.size; directory = found.part.directory.now; redo = found.redo.now }

-- the encoding of images; a ghost field that has an image needs it
abbrev pub coded_image : Coded Image
coded_image = code_by ((List ℕ × List ℕ) × List ℕ) (coded× (coded× (coded_list coded_ℕ) (coded_list coded_ℕ)) (coded_list coded_ℕ)) (λ image. ((image.pages, image.directory), image.redo)) (λ p. record { pages = p.0.0; directory = p.0.1; redo = p.1 }) (λ _. refl)
