-- Computing with the rules: to unfold `computes` is to unfold every definition that a step, a listing, the memory map and the clauses of "a node" are
-- made of. The memory test, its clauses on words, a step on memory, the head's part and the counts of pages stay shut: MemoryParts and TestComputes
-- have the laws of them. Assumes nothing.
use Rattle.rules.specs.Text.{extend_first, split, is_digit, value_from, decimal_before, decimal, row}
use Rattle.rules.specs.Script.{is_number, number, and_number, numbers, group_and_words, one_field, no_field, yes_or_no, force_field, letters, lettered, only_byte, operation_of, read_fields, read_line, ended, script_lines, report_line, list_from, header, listing}
use Rattle.rules.specs.Node.{empty_page, empty_paging, power_on, group_of, with_running, with_timer, with_queue, with_free, with_paging, with_groups, with_group, with_entered, with_flags, with_timer_flags, with_buffer, with_descriptor, buffer_holds, buffered, forced, timer_runs, place_of, message_of, waiting, unused, in_buffer, is_of, in_queue, line}
use Rattle.rules.specs.Frames.{ceil_div, extended, take_frame, with_room, appended, with_stock, put, first_frame, without, free_first, use_up, remove_first, pledge, pledges}
use Rattle.rules.specs.Paging.{in_frame, traded, traded_in, trading, more, stands_first, spared, victim, send_out, freed, exchange, bring_in, resident, next_page, prepared, store, first_resident, runner_resident}
use Rattle.rules.specs.Refusal.{queued, refuse_arrive, refuse_schedule, refuse_dispatch, refuse_tick, refuse_peek, refuse_dispose, refuse_end, refuse_describe, refuse_launch, refuse_request, refusal}
use Rattle.rules.specs.Settling.{one_more, may_stay, pass, rest_timer, settle, drain, calls, upcall, upcall_group}
use Rattle.rules.specs.Turn.{has_mail, turn_order, whose_turn}
use Rattle.rules.specs.Step.{valued, preempted, timer_flagged, revoke, timed_out, counted, one_tick, ticks, first_length, first_word, without_first, removed, flagged, disposed, section_begun, section_ended, extending, described, launched, serve, act, finish, in_arow, switched, performed, step}
use Rattle.rules.specs.Valid.{frame_list, idle, frame_numbers, frame_order, is_message, is_place, is_waiting, is_wiped, is_buffer, only_atomic, is_group, pending_has_line, runner_atomic, head_stays, is_swap, first_in_frame, runner_in_frame, stands_once, node_tests, is_node}
use Rattle.rules.specs.Memory.{frame_address, group_address, flag_word, message_words, queue_words, line_words, list_words, group_words, place_words, pages_from, pages_of, places_of, all_pages, frame_words, paging_words, words, word, words_at, message_at, messages_at, place_at, places_at, frame_places, flag_at, list_at, buffer_at, group_at, groups_from, paging_from, node_at}
use Rattle.rules.specs.MemoryTest.{length_in_bounds, memory_tests, replaced, power_on_memory, first_place, buffer_part, queue_part, runner_part}
use Rattle.rules.specs.Run.{asked, play, run, play_memory, run_memory}

-- all of them
unfoldable pub computes : Unit {0}
unfolding
    extend_first split is_digit value_from decimal_before decimal row
    is_number number and_number numbers group_and_words one_field no_field yes_or_no force_field letters lettered only_byte operation_of read_fields read_line ended script_lines report_line list_from header listing
    empty_page empty_paging power_on group_of with_running with_timer with_queue with_free with_paging with_groups with_group with_entered with_flags with_timer_flags with_buffer with_descriptor buffer_holds buffered forced timer_runs place_of message_of waiting unused in_buffer is_of in_queue line
    ceil_div extended take_frame with_room appended with_stock put first_frame without free_first use_up remove_first pledge pledges
    in_frame traded traded_in trading more stands_first spared victim send_out freed exchange bring_in resident next_page prepared store first_resident runner_resident
    queued refuse_arrive refuse_schedule refuse_dispatch refuse_tick refuse_peek refuse_dispose refuse_end refuse_describe refuse_launch refuse_request refusal
    one_more may_stay pass rest_timer settle drain calls upcall upcall_group
    has_mail turn_order whose_turn
    valued preempted timer_flagged revoke timed_out counted one_tick ticks first_length first_word without_first removed flagged disposed section_begun section_ended extending described launched serve act finish in_arow switched performed step
    frame_list idle frame_numbers frame_order is_message is_place is_waiting is_wiped is_buffer only_atomic is_group pending_has_line runner_atomic head_stays is_swap first_in_frame runner_in_frame stands_once node_tests is_node
    frame_address group_address flag_word message_words queue_words line_words list_words group_words place_words pages_from pages_of places_of all_pages frame_words paging_words words word words_at message_at messages_at place_at places_at frame_places flag_at list_at buffer_at group_at groups_from paging_from node_at
    length_in_bounds memory_tests replaced power_on_memory first_place buffer_part queue_part runner_part
    asked play run play_memory run_memory
computes = tt
