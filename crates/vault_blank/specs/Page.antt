-- The bytes of a database without a table, in one page of 512 bytes, by SQLite's file format
-- (https://www.sqlite.org/fileformat2.html): the database header of its section 1.3, then the header of a
-- b-tree page of its section 1.6, and nothing but zeros behind them.
use Rattle.std.specs.Prelude.{ℕ, zero, suc, ◌/◌, ◌%◌, ◌^◌, List, [], ◌∷◌, ◌++◌, codes}
use Rattle.std.specs.List.{repeat}

-- a number in this many bytes, the highest first
abbrev pub big : ℕ → ℕ → List ℕ
big zero number = []
big (suc width) number = (number / 256 ^ width) % 256 ∷ big width number

-- the database header: its fields in their order, by the format's names
pub record DatabaseHeader : Type 0 where
  pub page_size : ℕ
  pub write_version : ℕ
  pub read_version : ℕ
  pub reserved_space : ℕ
  pub maximum_payload_fraction : ℕ
  pub minimum_payload_fraction : ℕ
  pub leaf_payload_fraction : ℕ
  pub change_counter : ℕ
  pub size_in_pages : ℕ
  pub first_freelist_page : ℕ
  pub freelist_pages : ℕ
  pub schema_cookie : ℕ
  pub schema_format : ℕ
  pub default_cache_size : ℕ
  pub largest_root_page : ℕ
  pub text_encoding : ℕ
  pub user_version : ℕ
  pub incremental_vacuum : ℕ
  pub application_id : ℕ
  pub version_valid_for : ℕ
  pub version_number : ℕ

-- its 100 bytes, which begin with the format's own name
abbrev pub database_header : DatabaseHeader → List ℕ
database_header header =
    codes "SQLite format 3" ++ 0 ∷ []
    ++ big 2 header.page_size
    ++ big 1 header.write_version
    ++ big 1 header.read_version
    ++ big 1 header.reserved_space
    ++ big 1 header.maximum_payload_fraction
    ++ big 1 header.minimum_payload_fraction
    ++ big 1 header.leaf_payload_fraction
    ++ big 4 header.change_counter
    ++ big 4 header.size_in_pages
    ++ big 4 header.first_freelist_page
    ++ big 4 header.freelist_pages
    ++ big 4 header.schema_cookie
    ++ big 4 header.schema_format
    ++ big 4 header.default_cache_size
    ++ big 4 header.largest_root_page
    ++ big 4 header.text_encoding
    ++ big 4 header.user_version
    ++ big 4 header.incremental_vacuum
    ++ big 4 header.application_id
    ++ repeat 20 (0 ∷ [])
    ++ big 4 header.version_valid_for
    ++ big 4 header.version_number

-- the header of a leaf page
pub record LeafHeader : Type 0 where
  pub page_type : ℕ
  pub first_freeblock : ℕ
  pub cells : ℕ
  pub cell_content : ℕ
  pub fragmented_bytes : ℕ

-- its 8 bytes
abbrev pub leaf_header : LeafHeader → List ℕ
leaf_header header =
    big 1 header.page_type
    ++ big 2 header.first_freeblock
    ++ big 2 header.cells
    ++ big 2 header.cell_content
    ++ big 1 header.fragmented_bytes

-- One page of 512 bytes with a write-ahead log (2), in UTF-8 (1). The payload fractions and the schema
-- format are those that the format wants, the application is "VAUL", and the version 3.45.0.
abbrev pub blank_fields : DatabaseHeader
blank_fields = record {
  page_size = 512;
  write_version = 2;
  read_version = 2;
  reserved_space = 0;
  maximum_payload_fraction = 64;
  minimum_payload_fraction = 32;
  leaf_payload_fraction = 32;
  change_counter = 1;
  size_in_pages = 1;
  first_freelist_page = 0;
  freelist_pages = 0;
  schema_cookie = 0;
  schema_format = 4;
  default_cache_size = 0;
  largest_root_page = 0;
  text_encoding = 1;
  user_version = 0;
  incremental_vacuum = 0;
  application_id = 0x5641554C;
  version_valid_for = 1;
  version_number = 3045000;
}

-- an empty leaf of a table's b-tree (13), whose cells would begin at the page's end
abbrev pub blank_leaf : LeafHeader
blank_leaf = record {
  page_type = 13;
  first_freeblock = 0;
  cells = 0;
  cell_content = 512;
  fragmented_bytes = 0;
}

-- the page: 100 bytes, 8 bytes, and 404 zeros
abbrev pub blank_database : List ℕ
blank_database = database_header blank_fields ++ leaf_header blank_leaf ++ repeat 404 (0 ∷ [])
