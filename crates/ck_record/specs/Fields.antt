-- How the fields of a record stand in its 128 bytes.
use Rattle.std.specs.Prelude.{ℕ, ◌^◌, ◌<◌, ◌-◌, List, [], ◌∷◌, ◌++◌, Option, Some, None, IfSome, length, replicate}
use Rattle.std.specs.Int.{w32, w64, to_be_bytes}
use Rattle.ck_model.specs.Name.{IsName}
use Rattle.ck_record.specs.declared.fields.Fields.{Fields}

-- the bytes of the name, if there is one
abbrev pub name_bytes : Option (List ℕ) → List ℕ
name_bytes None = []
name_bytes (Some name) = name

-- the name's length and its bytes; a length of 0 is no name
abbrev pub counted : Option (List ℕ) → List ℕ
counted name = length (name_bytes name) ∷ name_bytes name

abbrev pub zeros : ℕ → List ℕ
zeros count = replicate count 0

-- the 128 bytes: each field from the byte on that its line names, and zeros everywhere else
unfoldable pub spelled : Fields → List ℕ
spelled f =
    f.kind ∷ f.sub ∷ zeros 2  -- 0
    ++ to_be_bytes w32 f.fileset  -- 4
    ++ to_be_bytes w64 f.stamp  -- 8
    ++ to_be_bytes w32 f.first  -- 16
    ++ to_be_bytes w32 f.second  -- 20
    ++ counted f.name  -- 24
    ++ zeros (80 - length (name_bytes f.name))
    ++ zeros 7  -- 105
    ++ to_be_bytes w64 f.value  -- 112
    ++ to_be_bytes w32 f.block  -- 120
    ++ zeros 4  -- 124

-- each field's number has as many bytes as the field
pub record IsFields (f : Fields) : Type 0 where
  pub fileset : f.fileset < 2 ^ 32
  pub stamp : f.stamp < 2 ^ 64
  pub first : f.first < 2 ^ 32
  pub second : f.second < 2 ^ 32
  pub name : IfSome f.name IsName
  pub value : f.value < 2 ^ 64
  pub block : f.block < 2 ^ 32
