-- What the run needs of bytes, passed on from the crate wire, so that it names the controller's crate alone.
pub use Rattle.wire.specs.Frame.{Content, kind_said, bit_said}
unfoldable pub use Rattle.wire.specs.Frame.{kind_of, chosen_by, said_by, bit_fits, max_count, length_fits, round_fits, head_fits, body_fits}
unfoldable pub use Rattle.wire.specs.Frame.{read_refusal, content, frame_bytes}
pub use Rattle.wire.specs.Limits.{frame_header, number_width, max_numbers, max_frame, last_round}
pub use Rattle.wire.specs.Found.{one, under}
pub use Rattle.wire.specs.Laws.Found.{under_one}
pub use Rattle.wire.specs.Tray.{Entry}
unfoldable pub use Rattle.wire.specs.Tray.{well_formed, round_of, entry_count, sender, part, entries}
