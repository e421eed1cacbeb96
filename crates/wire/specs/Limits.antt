-- Offsets, widths and limits of the two formats: document 01, "Frames" and "Trays". The code names the same numbers in src/limits.rt.
use Rattle.std.specs.Prelude.{ℕ}

-- frames: the header's length, a number's width, the fields' offsets
abbrev pub frame_header : ℕ
frame_header = 8

abbrev pub number_width : ℕ
number_width = 4

abbrev pub kind_at : ℕ
kind_at = 4

abbrev pub bit_at : ℕ
bit_at = 5

abbrev pub count_at : ℕ
count_at = 6

-- frames: the most numbers, the longest frame, the last round
abbrev pub max_numbers : ℕ
max_numbers = 64

abbrev pub max_frame : ℕ
max_frame = 264

abbrev pub last_round : ℕ
last_round = 195

-- trays: the header's length and its fields' offsets; an entry's width and its fields' offsets
abbrev pub tray_header : ℕ
tray_header = 8

abbrev pub entries_at : ℕ
entries_at = 4

abbrev pub zero_at : ℕ
zero_at = 6

abbrev pub entry_width : ℕ
entry_width = 8

abbrev pub offset_at : ℕ
offset_at = 4

abbrev pub length_at : ℕ
length_at = 6

-- trays: the longest tray, the most entries
abbrev pub max_tray : ℕ
max_tray = 65535

abbrev pub max_entries : ℕ
max_entries = 256
