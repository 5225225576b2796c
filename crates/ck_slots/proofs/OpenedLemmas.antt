-- Where a region's area lies on an image.
use Rattle.std.proofs.Common.{◌≡◌, ◌≤◌, length, length-drop, arith}
use Rattle.std.proofs.lemmas.List.{length-take}
use Rattle.ck_disk.specs.Disk.{Image}
use Rattle.ck_log.specs.Layout.{Layout, table_blocks, base_of}
use Rattle.ck_log.specs.Images.{area_of}
use Rattle.ck_log.proofs.AreaLaws.{area_high}

-- an area that lies on the image has as many blocks as a table
pub area_long : (layout : Layout) (image : Image) → base_of layout.records ≤ length image → length (area_of layout image) ≡ table_blocks layout.records
area_long layout image within = simp (length-take, length-drop) (omega (arith, within, area_high layout.records layout.second))
