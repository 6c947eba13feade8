-- A request that a driver submitted, and where its data lies.
use Rattle.std.specs.Prelude.{ℕ, List, drop, slice_index}
use Rattle.nv_driver.specs.Request.{Request}
use Rattle.nv_driver.specs.Schedule.{Sent}
use Rattle.nv_driver.specs.declared.geometry.Geometry.{Geometry}

-- the numbers of its data pages, the offset of its data in the first one, and the place for a list
pub record RequestPlace : Type 0 where
  pub pages : List ℕ
  pub offset : ℕ
  pub first : ℕ
  pub second : ℕ
  pub list_offset : ℕ

-- data in pages, of which the first two are for a list
abbrev pub place_in : Geometry → List ℕ → RequestPlace
place_in g pages = record {
  pages = drop 2 pages;
  offset = g.offset;
  first = slice_index pages 0;
  second = slice_index pages 1;
  list_offset = g.list_offset;
}

-- the request with its place and its data pointer
abbrev pub sent_at : RequestPlace → Request → (cid prp1 prp2 : ℕ) → Sent
sent_at at q cid prp1 prp2 = record {
  request = q;
  cid = cid;
  pages = at.pages;
  offset = at.offset;
  first = at.first;
  second = at.second;
  list_offset = at.list_offset;
  prp1 = prp1;
  prp2 = prp2;
}
