-- Names: 1 to 32 ASCII letters, digits, `_`, `.` or `-` (this product's own).
use Rattle.std.specs.Prelude.{ℕ, Bool, ◌&&◌, ◌||◌, ◌==◌, nat_le, List, length}
use Rattle.std.specs.Char.{is_ascii_digit}
use Rattle.std.specs.List.{list_all}

-- whether a byte may stand in a name: a letter, a digit, `_`, `.` or `-`
abbrev pub is_name_byte : ℕ → Bool
is_name_byte byte =
    is_ascii_digit byte || (nat_le 65 byte && nat_le byte 90) || (nat_le 97 byte && nat_le byte 122)
    || byte == 95 || byte == 46 || byte == 45

-- whether a field is a name: 1 to 32 such bytes
abbrev pub is_name : List ℕ → Bool
is_name field = nat_le 1 (length field) && nat_le (length field) 32 && list_all is_name_byte field
