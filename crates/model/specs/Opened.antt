-- Every definition that computes, opened by one name: a theorem by computation says `unfolding opened`. A new
-- definition that such a theorem computes with is added here.
use Rattle.model.specs.Basics.{each, any_of, all_indexed}
use Rattle.model.specs.Bytes.{splice, part, stored, little, little_bytes, zero_from}
use Rattle.model.specs.Memories.{legal_l2, legal_external, cache_size, is_mode}
use Rattle.model.specs.Lines.{l2_slot, holds, without, in_front, used2, used4, l1d_put, l2_put, l1d_use, l2_use}
use Rattle.model.specs.Records.{mode0, covers, mar_bit, with_l1d_line, with_l2_line, legal_sizes, permuted2}
use Rattle.model.specs.Records.{permuted4, empty_way, own_l1d_set, own_l2_set, none_twice, in_sram, in_cacheable}
use Rattle.model.specs.Records.{l1d_region, l2_region, fresh_unless_used, inside_l2_line, covered_by_l2, l1d_place}
use Rattle.model.specs.Records.{l2_place, l1d_line_ok, l2_line_ok, l1d_set_ok, l2_set_ok, well_formed, fresh_record}
use Rattle.model.specs.Records.{fresh_state, dirty_lines, dirty_in, counted, counts_ok}
use Rattle.model.specs.Ways.{way_holding, l1d_find, l2_find, lowest_invalid, l1d_victim, l2_victim, l1d_way, l2_way}
use Rattle.model.specs.Ways.{in_l1d, in_l2, use_l1d, use_l2, empty_l1d, empty_l2}
use Rattle.model.specs.Homes.{home_is_l2, memory_part, put_memory, put_l2, put_home, l2_way_for, take_half, take_halves}
use Rattle.model.specs.Homes.{write_out_l2, writeback_l2, evict_l2, fill_l2, fetch_l2, home_server}
use Rattle.model.specs.Access.{cacheable, use_hit, read_hit, writeback_l1d, evict_l1d, home_part, fill_l1d, read_filled}
use Rattle.model.specs.Access.{read_emptied, read_thawed, read_frozen, read_miss, read_access, put_l1d, write_hit}
use Rattle.model.specs.Access.{write_home, write_miss, write_access}
use Rattle.model.specs.Reports.{left_by, l1d_left, l2_left, fetch_left, taken, memory_moved, put_memory_moved}
use Rattle.model.specs.Reports.{write_out_l2_moved, fill_l2_moved, put_home_moved, writeback_l1d_moved, evict_l1d_moved}
use Rattle.model.specs.Reports.{writeback_l2_moved, evict_l2_moved, bring_l2_moved, fetch_l2_moved, home_moved}
use Rattle.model.specs.Reports.{fill_l1d_moved, write_home_moved, read_emptied_moved, read_thawed_moved}
use Rattle.model.specs.Reports.{read_frozen_moved, read_miss_moved, read_moved, write_miss_moved, write_moved, bytes_in}
use Rattle.model.specs.Reports.{read_miss_report, write_miss_report, read_report, write_report}
use Rattle.model.specs.Modes.{smaller, flush_l1d, flush_l2, new_mode, change_mode, change_mar, change_freeze}
use Rattle.model.specs.Commands.{block_end, lines_touched, each_touched, each_l2, at_l2, at_l1d, unless_mode0, evict_all_l1d}
use Rattle.model.specs.Commands.{l2_writeback_all, l2_writeback_invalidate_all, l2_writeback_block}
use Rattle.model.specs.Commands.{l2_writeback_invalidate_block, drop_l2, l2_invalidate_block}
use Rattle.model.specs.Commands.{l1d_writeback_invalidate_block, l1d_invalidate_block, l1d_invalidate_all}
use Rattle.model.specs.Refusals.{lent_l1d, lent_l2, lent_external, size_ok, place_ok, value_ok, in_range, holds_range}
use Rattle.model.specs.Refusals.{lent_due, view_lent_due, access_due, block_due, mode_due, mar_due, freeze_due, view_due}
use Rattle.model.specs.Unaligned.{unaligned_size, read_up, write_up, bytes_placed, read_up_report, write_up_report}
use Rattle.model.specs.Unaligned.{unaligned_due}
use Rattle.model.specs.Transfers.{sent_home, transferred_in, transferred_out, transfer_length, transfer_due}
use Rattle.model.specs.Trace.{more_groups, groups, number_below, one_number, second_number, two_numbers, value_number}
use Rattle.model.specs.Trace.{three_numbers, decode_after, decode}
use Rattle.model.specs.Calls.{command_due, read_done, write_done, command_state, accepted, step, call, fresh_ok}
use Rattle.model.specs.Calls.{read_unaligned_done, write_unaligned_done, read_unaligned_step, write_unaligned_step}
use Rattle.model.specs.Calls.{read_unaligned_call, write_unaligned_call}
use Rattle.model.specs.Calls.{transfer_in_step, transfer_in_call, transfer_out_step, transfer_out_call, fetch_behind_done, fetch_behind_step, fetch_behind_call}
use Rattle.model.specs.Calls.{fresh_call, put_answer, run_from, run_call, view_call, view_done, after}
use Rattle.model.specs.Fetches.{fetch_access, fetch_moved, fetch_report, fetch_due}
use Rattle.model.specs.Flat.{fresh_flat, flat_part, flat_put, flat_mode, flat_read, flat_write, flat_change, flat_step}
use Rattle.model.specs.Flat.{flat_after, flat_read_unaligned, flat_write_unaligned, flat_transfer_in, flat_transfer_out, flat_fetch}

unfoldable pub opened : Unit {0}
unfolding
    each any_of all_indexed
    splice part stored little little_bytes zero_from
    legal_l2 legal_external cache_size is_mode
    l2_slot holds without in_front used2 used4 l1d_put l2_put l1d_use l2_use
    mode0 covers mar_bit with_l1d_line with_l2_line legal_sizes permuted2 permuted4 empty_way own_l1d_set own_l2_set
    none_twice in_sram in_cacheable l1d_region l2_region fresh_unless_used inside_l2_line covered_by_l2 l1d_place l2_place
    dirty_lines dirty_in counted l1d_line_ok l2_line_ok l1d_set_ok l2_set_ok counts_ok well_formed fresh_record fresh_state
    way_holding l1d_find l2_find lowest_invalid l1d_victim l2_victim l1d_way l2_way in_l1d in_l2 use_l1d use_l2 empty_l1d
    empty_l2
    home_is_l2 memory_part put_memory put_l2 put_home l2_way_for take_half take_halves write_out_l2 writeback_l2 evict_l2 fill_l2
    fetch_l2 home_server
    cacheable use_hit read_hit writeback_l1d evict_l1d home_part fill_l1d read_filled read_emptied read_thawed read_frozen
    read_miss read_access put_l1d write_hit write_home write_miss write_access
    left_by l1d_left l2_left fetch_left taken memory_moved put_memory_moved write_out_l2_moved fill_l2_moved put_home_moved
    writeback_l1d_moved evict_l1d_moved writeback_l2_moved evict_l2_moved bring_l2_moved fetch_l2_moved home_moved fill_l1d_moved
    write_home_moved read_emptied_moved read_thawed_moved read_frozen_moved read_miss_moved read_moved write_miss_moved write_moved
    bytes_in read_miss_report write_miss_report read_report write_report
    smaller flush_l1d flush_l2 new_mode change_mode change_mar change_freeze
    block_end lines_touched each_touched each_l2 at_l2 at_l1d unless_mode0 evict_all_l1d l2_writeback_all l2_writeback_invalidate_all
    l2_writeback_block l2_writeback_invalidate_block drop_l2 l2_invalidate_block l1d_writeback_invalidate_block
    l1d_invalidate_block l1d_invalidate_all
    lent_l1d lent_l2 lent_external size_ok place_ok value_ok in_range holds_range lent_due view_lent_due access_due block_due
    mode_due mar_due freeze_due view_due
    unaligned_size read_up write_up bytes_placed read_up_report write_up_report unaligned_due
    sent_home transferred_in transferred_out transfer_length transfer_due
    more_groups groups number_below one_number second_number two_numbers value_number three_numbers decode_after decode
    command_due read_done write_done command_state accepted step call fresh_ok fresh_call put_answer run_from run_call
    view_call view_done after
    read_unaligned_done write_unaligned_done read_unaligned_step write_unaligned_step read_unaligned_call write_unaligned_call
    transfer_in_step transfer_in_call transfer_out_step transfer_out_call
    fetch_access fetch_moved fetch_report fetch_due fetch_behind_done fetch_behind_step fetch_behind_call
    fresh_flat flat_part flat_put flat_mode flat_read flat_write flat_change flat_step flat_after flat_read_unaligned
    flat_write_unaligned flat_transfer_in flat_transfer_out flat_fetch
opened = tt
